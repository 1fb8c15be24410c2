-- The columns of a row as a child prints it: the keys in the order of PRIMARY KEY, the ends of the range, then the
-- others.
use Rattle.std.specs.Prelude.{◌∷◌, ◌++◌, ◌||◌, [], ℕ, Bool, true, false, List, if◌then◌else◌}
use Rattle.std.specs.Prelude.{length, map, slice_get}
use Rattle.std.specs.List.{filter, filter_map, range_with_len}
use Rattle.std.specs.Option.{option_map}
use Rattle.dict_value.specs.declared.value.AttrType.{AttrType}
use Rattle.dict_schema.specs.declared.definition.Column.{Column}
use Rattle.dict_schema.specs.declared.definition.Definition.{Definition}
use Rattle.dict_schema.specs.declared.definition.RangeOf.{RangeOf}
use Rattle.dict_schema.specs.declared.definition.RangeOf.TheVariants as range
use Rattle.dict_schema.specs.declared.definition.Role.{Role}
use Rattle.dict_schema.specs.declared.definition.Role.TheVariants.{Key, Start, End, Attribute}
use Rattle.dict_schema.specs.declared.definition.ShapeColumn.{ShapeColumn}
use Rattle.dict_schema.specs.Parts.{is_attribute}

-- a column of the definition in a role
abbrev pub shape_column : Role → Column → ShapeColumn
shape_column role column = record { ty = column.ty; role = role; default = column.default }

-- the columns at these places, in this role; a place without a column has none
abbrev pub columns_at : Definition → Role → List ℕ → List ShapeColumn
columns_at d role places = filter_map (λ place. option_map (shape_column role) (slice_get d.columns place)) places

-- the ends of the range
abbrev pub end_columns : Definition → RangeOf → List ShapeColumn
end_columns d range.None = []
end_columns d (range.Columns start end) = columns_at d Start (start ∷ []) ++ columns_at d End (end ∷ [])

-- the attributes, in the order of the definition
abbrev pub attribute_columns : Definition → List ShapeColumn
attribute_columns d = columns_at d Attribute (filter (is_attribute d) (range_with_len 0 (length d.columns)))

-- the columns of a row
abbrev pub shape_of : Definition → List ShapeColumn
shape_of d = columns_at d Key d.keys ++ (end_columns d d.range ++ attribute_columns d)

-- the same without the keys where the rows of a reply stand for the keys that were sent
abbrev pub keyed_shape_of : Definition → List ShapeColumn
keyed_shape_of d = if d.source.implicit then end_columns d d.range ++ attribute_columns d else shape_of d

-- whether NULL in a column stands for an end of a range that is open
abbrev pub may_be_open : Role → Bool
may_be_open Start = true
may_be_open End = true
may_be_open Key = false
may_be_open Attribute = false

-- the type of the values in a column of a row: that of the column, and nullable at an end of a range
abbrev pub cell_type : ShapeColumn → AttrType
cell_type column = record { base = column.ty.base; nullable = may_be_open column.role || column.ty.nullable }

abbrev pub cell_types : List ShapeColumn → List AttrType
cell_types shape = map cell_type shape
