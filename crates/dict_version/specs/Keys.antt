-- What rows are found by: the first columns of each row, as its layout looks at them.
use Rattle.std.specs.Prelude.{◌≡◌, ◌+◌, [], ℕ, pos, List, Bool, true, false, Option, Some, IsTrue}
use Rattle.std.specs.Prelude.{filter, length, map, slice_get, take}
use Rattle.std.specs.List.{range_with_len}
use Rattle.dict_schema.specs.Parts.{is_attribute}
use Rattle.dict_schema.specs.declared.definition.Column.{Column}
use Rattle.dict_schema.specs.declared.definition.Definition.{Definition}
use Rattle.dict_schema.specs.declared.definition.Layout.{Layout}
use Rattle.dict_schema.specs.declared.definition.Layout.TheVariants as layout
use Rattle.dict_schema.specs.declared.definition.RangeOf.{RangeOf}
use Rattle.dict_schema.specs.declared.definition.RangeOf.TheVariants as range
use Rattle.dict_value.specs.declared.value.Value.{Value}
use Rattle.dict_value.specs.declared.value.Value.TheVariants.{U, I, S, Day, Second}
use Rattle.hier.specs.declared.hier.Parent.{Parent}
use Rattle.hier.specs.declared.hier.Parent.TheVariants.{Top, Of}
use Rattle.range_layout.specs.declared.ends.End.{End}
use Rattle.range_layout.specs.declared.ends.End.TheVariants.{Free, At}
use Rattle.range_layout.specs.declared.ends.Ends.{Ends}

-- the number of a key that is one UInt64; a row that begins otherwise has none, and counts as 0
abbrev pub key_number : Option Value → ℕ
key_number (Some (U n)) = n
key_number _ = 0

-- the text of a key that is one String
abbrev pub text_in : Option Value → List ℕ
text_in (Some (S text)) = text
text_in _ = []

-- the end of a range that a value is: a number, a day or a second; NULL is an open one
abbrev pub range_end : Option Value → End
range_end (Some (U n)) = At (pos n)
range_end (Some (I z)) = At z
range_end (Some (Day n)) = At (pos n)
range_end (Some (Second n)) = At (pos n)
range_end _ = Free

-- the parent that a value names: NULL is none
abbrev pub parent_in : Option Value → Parent
parent_in (Some (U n)) = Of n
parent_in _ = Top

-- the numbers that rows begin with, and the texts
abbrev pub numbers_of : List (List Value) → List ℕ
numbers_of rows = map (λ row. key_number (slice_get row 0)) rows

abbrev pub key_texts : List (List Value) → List (List ℕ)
key_texts rows = map (λ row. text_in (slice_get row 0)) rows

-- the first values of each row, as many as there are key columns
abbrev pub key_lists_of : Definition → List (List Value) → List (List Value)
key_lists_of d rows = map (take (length d.keys)) rows

-- the range of a row: its start and its end stand behind its keys
abbrev pub range_behind : ℕ → List Value → Ends
range_behind count row = record { low = range_end (slice_get row count); high = range_end (slice_get row (count + 1)) }

abbrev pub ranges_of : Definition → List (List Value) → List Ends
ranges_of d rows = map (range_behind (length d.keys)) rows

-- how many columns of a row are ends of a range
abbrev pub end_count : RangeOf → ℕ
end_count range.None = 0
end_count (range.Columns start end) = 2

-- The place in a row of the attribute that is this column of the definition: behind the keys, the ends of the range and
-- the attributes before it.
abbrev pub attribute_place : Definition → ℕ → ℕ
attribute_place d column =
    length d.keys + end_count d.range + length (filter (is_attribute d) (range_with_len 0 column))

-- the parents that rows name by the attribute that is this column
abbrev pub parents_of : Definition → ℕ → List (List Value) → List Parent
parents_of d column rows = map (λ row. parent_in (slice_get row (attribute_place d column))) rows

-- FLAT and the simple hashed layouts, whose key is one number
abbrev pub is_numbered : Layout → Bool
is_numbered (layout.Flat initial most) = true
is_numbered layout.Hashed = true
is_numbered layout.SparseHashed = true
is_numbered layout.HashedArray = true
is_numbered _ = false

-- the column names a parent, and the layout has a hierarchy
abbrev pub NamesParent : Definition → ℕ → Type 0
NamesParent d place =
    IsTrue (is_numbered d.layout)
    × ((column : Column) × (slice_get d.columns place ≡ Some column) × IsTrue column.hierarchical)
