-- What a flat layout of a UInt64 key makes of what a child's output decodes to.
use Rattle.std.specs.Prelude.{◌≡◌, ◌<◌, ◌≤◌, ℕ, List, ◌∷◌, ◌++◌, ◌⊎◌, Result, Ok, Err}
use Rattle.std.specs.List.{AllByRecursion}
use Rattle.dict_value.specs.declared.fault.Cause.{Cause}
use Rattle.dict_value.specs.declared.fault.Cause.TheVariants.{Rows as TooManyRows, Row as FirstBadRow, Key as LargeKey}
use Rattle.dict_value.specs.declared.value.Value.{Value}
use Rattle.dict_value.specs.declared.value.Value.TheVariants.{U}
use Rattle.row_text.specs.declared.decode.DecodeFault.{DecodeFault}
use Rattle.row_text.specs.declared.decode.DecodeFault.TheVariants as decode
use Rattle.load_core.specs.declared.flat.TableFault.{TableFault}
use Rattle.load_core.specs.declared.flat.TableFault.TheVariants as table

-- what a text decodes to, as a relation to its answer
abbrev pub DecodedAs : Type 1
DecodedAs = Result (List (List Value)) DecodeFault → Type 0

-- the least number that is no key of a flat layout of the default size
abbrev pub key_bound : ℕ
key_bound = 500000

-- the row's first value is this key
abbrev pub HasFirstKey : List Value → ℕ → Type 0
HasFirstKey row key = (values : List Value) × (row ≡ U key ∷ values)

abbrev pub HasSmallKey : List Value → Type 0
HasSmallKey row = (key : ℕ) → HasFirstKey row key → key < key_bound

-- this is the first key that a flat layout doesn't take
pub record IsFirstLarge (rows : List (List Value)) (key : ℕ) : Type 0 where
  pub before : List (List Value)
  pub row : List Value
  pub after : List (List Value)
  pub parts : rows ≡ before ++ row ∷ after
  pub small : AllByRecursion HasSmallKey before
  pub here : HasFirstKey row key
  pub large : key_bound ≤ key

-- the rows that a text decodes to, each with a key that the layout takes
pub record IsTable (decodes : DecodedAs) (rows : List (List Value)) : Type 0 where
  pub decoded : decodes (Ok rows)
  pub keys : AllByRecursion HasSmallKey rows

-- why there is no table: the fault of decoding, or else the first large key
abbrev pub HasNoTableFor : DecodedAs → Cause → Type 0
HasNoTableFor decodes (FirstBadRow bad) = decodes (Err (decode.Bad bad))
HasNoTableFor decodes TooManyRows = decodes (Err decode.TooMany)
HasNoTableFor decodes (LargeKey key) = (rows : List (List Value)) × decodes (Ok rows) × IsFirstLarge rows key
HasNoTableFor decodes cause = ⊥

-- the rows are a table, or else the first large key is why there is none
abbrev pub MakesOf : List (List Value) → Result (List (List Value)) TableFault → Type 0
MakesOf rows made =
    ((made ≡ Ok rows) × AllByRecursion HasSmallKey rows)
    ⊎ ((key : ℕ) × (made ≡ Err (table.Refused (LargeKey key))) × IsFirstLarge rows key)

-- what is made of an answer of decoding, whose fault stays what it is
abbrev pub Makes : Result (List (List Value)) DecodeFault → Result (List (List Value)) TableFault → Type 0
Makes (Ok rows) made = MakesOf rows made
Makes (Err (decode.Bad bad)) made = made ≡ Err (table.Refused (FirstBadRow bad))
Makes (Err decode.TooMany) made = made ≡ Err (table.Refused TooManyRows)
Makes (Err decode.NoMemory) made = made ≡ Err table.NoMemory
