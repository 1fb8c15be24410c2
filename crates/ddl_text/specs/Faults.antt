-- Faults, their places and their words.
use Rattle.std.specs.Prelude.{ℕ, List, codes}
use Rattle.ddl_tokens.specs.declared.fault.SyntaxFault.{SyntaxFault}
use Rattle.ddl_tokens.specs.declared.fault.SyntaxFault.TheVariants as syntax
use Rattle.ddl_tokens.specs.declared.fault.ReadFault.{ReadFault}
use Rattle.ddl_tokens.specs.declared.fault.ReadFault.TheVariants as read
use Rattle.dict_schema.specs.declared.fault.DefFault.{DefFault}
use Rattle.dict_schema.specs.declared.fault.DefFault.TheVariants as definition
use Rattle.dict_schema.specs.declared.fault.Which.{Which}
use Rattle.dict_schema.specs.declared.fault.Which.TheVariants as which
use Rattle.ddl_text.specs.declared.fault.DdlFault.{DdlFault}
use Rattle.ddl_text.specs.declared.fault.DdlFault.TheVariants as fault
use Rattle.ddl_text.specs.declared.fault.FileFault.{FileFault}
use Rattle.ddl_text.specs.declared.fault.FileFault.TheVariants as file

abbrev pub of_syntax : SyntaxFault → DdlFault
of_syntax (syntax.Unexpected place) = fault.Unexpected place
of_syntax (syntax.UnknownSetting place) = fault.UnknownSetting place
of_syntax (syntax.Twice place) = fault.Twice place
of_syntax (syntax.Unsupported place) = fault.Unsupported place

abbrev pub of_reading : ReadFault → FileFault
of_reading (read.Syntax e) = file.Fault (of_syntax e)
of_reading read.NoMemory = file.NoMemory

abbrev pub place_of_fault : DdlFault → ℕ
place_of_fault (fault.Unexpected place) = place
place_of_fault (fault.UnknownSetting place) = place
place_of_fault (fault.Twice place) = place
place_of_fault (fault.Unsupported place) = place
place_of_fault (fault.Def place why) = place
place_of_fault (fault.TooMany place) = place

-- ---- words

abbrev pub words_of_limit : Which → List ℕ
words_of_limit which.Columns = codes "limit columns"
words_of_limit which.Keys = codes "limit keys"
words_of_limit which.Args = codes "limit arguments"
words_of_limit which.Name = codes "limit name"
words_of_limit which.Command = codes "limit command"
words_of_limit which.Output = codes "limit output"
words_of_limit which.ArraySize = codes "limit array size"
words_of_limit which.Cells = codes "limit cells"
words_of_limit which.PoolSize = codes "limit pool size"
words_of_limit which.LifetimeOrder = codes "limit lifetime order"

abbrev pub words_of_definition : DefFault → List ℕ
words_of_definition (definition.Limit which n) = words_of_limit which
words_of_definition definition.NoKey = codes "no key"
words_of_definition definition.NoArguments = codes "no arguments"
words_of_definition (definition.KeyMissing n) = codes "key missing"
words_of_definition (definition.DuplicateName n) = codes "duplicate name"
words_of_definition definition.SimpleKeyType = codes "simple key type"
words_of_definition (definition.KeyType n) = codes "key type"
words_of_definition definition.RangeMissing = codes "range missing"
words_of_definition definition.RangeUnused = codes "range unused"
words_of_definition definition.RangeType = codes "range type"
words_of_definition (definition.HierarchyType n) = codes "hierarchy type"
words_of_definition (definition.BadDefault n) = codes "bad default"
words_of_definition definition.PoolNeedsKeys = codes "pool needs keys"
words_of_definition definition.Command = codes "command"
words_of_definition definition.UpdateLayout = codes "update layout"

abbrev pub words_of : DdlFault → List ℕ
words_of (fault.Unexpected place) = codes "unexpected"
words_of (fault.UnknownSetting place) = codes "unknown setting"
words_of (fault.Twice place) = codes "given twice"
words_of (fault.Unsupported place) = codes "unsupported"
words_of (fault.Def place why) = words_of_definition why
words_of (fault.TooMany place) = codes "too many"
