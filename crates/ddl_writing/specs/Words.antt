-- The fixed words of a definition's text.
use Rattle.std.specs.Prelude.{ℕ, List, ◌++◌, codes, decimal}
use Rattle.ddl_writing.specs.declared.words.Word.{Word}
use Rattle.ddl_writing.specs.declared.words.Word.TheVariants as word

unfoldable pub word_text : Word → List ℕ
word_text word.Create = codes "CREATE DICTIONARY "
word_text word.PrimaryKey = codes ") PRIMARY KEY "
word_text word.Function = codes "EXECUTABLE FUNCTION "
word_text word.Returns = codes ") RETURNS "
word_text word.Command = codes "command "
word_text word.Form = codes " format "
word_text word.Direct = codes " execute_direct "
word_text word.Implicit = codes " implicit_key "
word_text word.Header = codes " send_chunk_header "
word_text word.ReadTimeout = codes " command_read_timeout "
word_text word.WriteTimeout = codes " command_write_timeout "
word_text word.EndTimeout = codes " command_termination_timeout "
word_text word.PoolSize = codes " pool_size "
word_text word.ExecutionTime = codes " max_command_execution_time "
word_text word.UpdateField = codes " update_field "
word_text word.UpdateLag = codes " update_lag "
word_text word.Kept = codes " LAYOUT("
word_text word.Initial = codes "FLAT(INITIAL_ARRAY_SIZE "
word_text word.Greatest = codes " MAX_ARRAY_SIZE "
word_text word.Range = codes "RANGE_HASHED"
word_text word.ComplexRange = codes "COMPLEX_KEY_RANGE_HASHED"
word_text word.Cache = codes "CACHE"
word_text word.ComplexCache = codes "COMPLEX_KEY_CACHE"
word_text word.Cells = codes "(SIZE_IN_CELLS "
word_text word.Expired = codes " ALLOW_READ_EXPIRED_KEYS "
word_text word.Queue = codes " MAX_UPDATE_QUEUE_SIZE "
word_text word.LifetimeMin = codes " LIFETIME(MIN "
word_text word.Max = codes " MAX "
word_text word.RangeMin = codes " RANGE(MIN "
word_text word.Output = codes " SETTINGS(max_output_bytes = "
word_text word.Comment = codes " COMMENT "

-- a setting and its number
abbrev pub numbered : Word → ℕ → List ℕ
numbered w n = word_text w ++ decimal n
