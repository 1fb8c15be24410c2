-- The settings of sources and layouts: what they are named, and which list takes which.
use Rattle.std.specs.Prelude.{ℕ, Bool, true, false, List, [], ◌∷◌, codes}
use Rattle.dict_schema.specs.declared.definition.Kind.{Kind}
use Rattle.dict_schema.specs.declared.definition.Kind.TheVariants as kind
use Rattle.ddl_clauses.specs.declared.settings.SettingName.{SettingName}
use Rattle.ddl_clauses.specs.declared.settings.SettingName.TheVariants as name
use Rattle.ddl_clauses.specs.declared.settings.Form.{Form}
use Rattle.ddl_clauses.specs.declared.settings.Form.TheVariants as form
use Rattle.ddl_clauses.specs.declared.settings.Group.{Group}
use Rattle.ddl_clauses.specs.declared.settings.Group.TheVariants as group
use Rattle.ddl_clauses.specs.declared.settings.Section.{Section}
use Rattle.ddl_clauses.specs.declared.settings.Section.TheVariants as section
use Rattle.ddl_clauses.specs.declared.settings.Owner.{Owner}
use Rattle.ddl_clauses.specs.declared.settings.Owner.TheVariants as owner

-- ---- each setting: its number, name and form, and the group that it belongs to

abbrev pub setting_number : SettingName → ℕ
setting_number name.Command = 0
setting_number name.Format = 1
setting_number name.ExecuteDirect = 2
setting_number name.ImplicitKey = 3
setting_number name.SendChunkHeader = 4
setting_number name.ReadTimeout = 5
setting_number name.WriteTimeout = 6
setting_number name.TerminationTimeout = 7
setting_number name.PoolSize = 8
setting_number name.ExecutionTime = 9
setting_number name.UpdateField = 10
setting_number name.UpdateLag = 11
setting_number name.InitialArraySize = 12
setting_number name.MaxArraySize = 13
setting_number name.Preallocate = 14
setting_number name.Shards = 15
setting_number name.ShardBacklog = 16
setting_number name.RangeStrategy = 17
setting_number name.SizeInCells = 18
setting_number name.ReadExpired = 19
setting_number name.UpdateQueue = 20

-- all of them, in the order of their numbers
abbrev pub all_settings : List SettingName
all_settings =
    name.Command ∷ name.Format ∷ name.ExecuteDirect ∷ name.ImplicitKey ∷ name.SendChunkHeader ∷ name.ReadTimeout
    ∷ name.WriteTimeout ∷ name.TerminationTimeout ∷ name.PoolSize ∷ name.ExecutionTime ∷ name.UpdateField
    ∷ name.UpdateLag ∷ name.InitialArraySize ∷ name.MaxArraySize ∷ name.Preallocate ∷ name.Shards
    ∷ name.ShardBacklog ∷ name.RangeStrategy ∷ name.SizeInCells ∷ name.ReadExpired ∷ name.UpdateQueue ∷ []

abbrev pub setting_text : SettingName → List ℕ
setting_text name.Command = codes "command"
setting_text name.Format = codes "format"
setting_text name.ExecuteDirect = codes "execute_direct"
setting_text name.ImplicitKey = codes "implicit_key"
setting_text name.SendChunkHeader = codes "send_chunk_header"
setting_text name.ReadTimeout = codes "command_read_timeout"
setting_text name.WriteTimeout = codes "command_write_timeout"
setting_text name.TerminationTimeout = codes "command_termination_timeout"
setting_text name.PoolSize = codes "pool_size"
setting_text name.ExecutionTime = codes "max_command_execution_time"
setting_text name.UpdateField = codes "update_field"
setting_text name.UpdateLag = codes "update_lag"
setting_text name.InitialArraySize = codes "INITIAL_ARRAY_SIZE"
setting_text name.MaxArraySize = codes "MAX_ARRAY_SIZE"
setting_text name.Preallocate = codes "PREALLOCATE"
setting_text name.Shards = codes "SHARDS"
setting_text name.ShardBacklog = codes "SHARD_LOAD_QUEUE_BACKLOG"
setting_text name.RangeStrategy = codes "range_lookup_strategy"
setting_text name.SizeInCells = codes "SIZE_IN_CELLS"
setting_text name.ReadExpired = codes "ALLOW_READ_EXPIRED_KEYS"
setting_text name.UpdateQueue = codes "MAX_UPDATE_QUEUE_SIZE"

abbrev pub form_of : SettingName → Form
form_of name.Command = form.Text
form_of name.Format = form.Format
form_of name.ExecuteDirect = form.Flag
form_of name.ImplicitKey = form.Flag
form_of name.SendChunkHeader = form.Flag
form_of name.ReadTimeout = form.Short
form_of name.WriteTimeout = form.Short
form_of name.TerminationTimeout = form.Short
form_of name.PoolSize = form.Whole
form_of name.ExecutionTime = form.Short
form_of name.UpdateField = form.BareName
form_of name.UpdateLag = form.Short
form_of name.InitialArraySize = form.Short
form_of name.MaxArraySize = form.Whole
form_of name.Preallocate = form.Whole
form_of name.Shards = form.Whole
form_of name.ShardBacklog = form.Whole
form_of name.RangeStrategy = form.Strategy
form_of name.SizeInCells = form.Whole
form_of name.ReadExpired = form.NoFlag
form_of name.UpdateQueue = form.Short

abbrev pub group_of : SettingName → Group
group_of name.Command = group.Run
group_of name.Format = group.Run
group_of name.ExecuteDirect = group.Run
group_of name.ImplicitKey = group.Implicit
group_of name.SendChunkHeader = group.Run
group_of name.ReadTimeout = group.Run
group_of name.WriteTimeout = group.Run
group_of name.TerminationTimeout = group.Run
group_of name.PoolSize = group.Pool
group_of name.ExecutionTime = group.Pool
group_of name.UpdateField = group.Update
group_of name.UpdateLag = group.Update
group_of name.InitialArraySize = group.Flat
group_of name.MaxArraySize = group.Flat
group_of name.Preallocate = group.Hashed
group_of name.Shards = group.Hashed
group_of name.ShardBacklog = group.Hashed
group_of name.RangeStrategy = group.Range
group_of name.SizeInCells = group.Cache
group_of name.ReadExpired = group.Cache
group_of name.UpdateQueue = group.Cache

-- ---- each list: the groups that it takes, and the settings that it wants

abbrev pub has_group : Section → Group → Bool
has_group section.Executable group.Run = true
has_group section.Executable group.Implicit = true
has_group section.Executable group.Update = true
has_group section.Pool group.Run = true
has_group section.Pool group.Implicit = true
has_group section.Pool group.Pool = true
has_group section.FunctionExecutable group.Run = true
has_group section.FunctionPool group.Run = true
has_group section.FunctionPool group.Pool = true
has_group section.Flat group.Flat = true
has_group section.Hashed group.Hashed = true
has_group section.Range group.Range = true
has_group section.Cache group.Cache = true
has_group _ _ = false

abbrev pub wanted_of_source : List SettingName
wanted_of_source = name.Command ∷ name.Format ∷ []

abbrev pub wanted_settings : Section → List SettingName
wanted_settings section.Executable = wanted_of_source
wanted_settings section.Pool = wanted_of_source
wanted_settings section.FunctionExecutable = wanted_of_source
wanted_settings section.FunctionPool = wanted_of_source
wanted_settings section.Cache = name.SizeInCells ∷ []
wanted_settings _ = []

-- the list of settings of a source
abbrev pub source_section : Owner → Kind → Section
source_section owner.Dictionary kind.Executable = section.Executable
source_section owner.Dictionary kind.Pool = section.Pool
source_section owner.Function kind.Executable = section.FunctionExecutable
source_section owner.Function kind.Pool = section.FunctionPool
