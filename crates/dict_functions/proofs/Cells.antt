-- Texts that a lookup of an attribute gives.
use Rattle.std.proofs.Common.{◌≡◌, ◌<◌, ◌∙◌, ℕ, List, Option, Some, None, length, sym, subst}
use Rattle.std.proofs.lemmas.Option.{slice_get_within}
use Rattle.dict_schema.specs.Shapes.{shape_column, shape_of}
use Rattle.dict_schema.specs.Sound.{IsSound}
use Rattle.dict_schema.specs.declared.definition.Definition.{Definition}
use Rattle.dict_schema.specs.declared.definition.Role.TheVariants.{Attribute as AttributeRole}
use Rattle.dict_value.specs.declared.value.Field.{Field}
use Rattle.dict_version.proofs.AttributePlaces.{attribute_there}
use Rattle.dict_version.specs.Contents.{Contents}
use Rattle.dict_version.specs.Keys.{attribute_place}
use Rattle.dict_version.specs.Lookups.{Finds}
use Rattle.dict_version.specs.Printed.{IsPrintedAt, IsPrintedIn}
use Rattle.dict_version.specs.declared.key.Key.{Key}
use Rattle.wire_text.specs.declared.request.Asked.{Asked}
use Rattle.wire_text.specs.declared.request.Verb.{Verb}
use Rattle.wire_text.specs.declared.request.Verb.TheVariants as verb
use Rattle.std.proofs.Common.{IsTrue}
use Rattle.dict_functions.specs.Asking.{asks_attribute}
use Rattle.dict_functions.specs.Keys.{ReadsKey}
use Rattle.dict_functions.specs.Values.{IsAttributeText, IsHasText, IsText, IsTextBy}
use Rattle.dict_functions.specs.declared.asking.Attribute.{Attribute}
use Rattle.dict_functions.specs.steps.Lines.{HasCell, HasCellText, HasLine, HasTextOf, IsAttributeOf, IsCellFor, MayStand}
use Rattle.packed_rows.specs.Cells.{meaning}
use Rattle.packed_rows.specs.declared.cell.Cell.{Cell}
use Rattle.wire_text.specs.declared.reply.Line.{Line}
use Rattle.dict_version.specs.declared.key.Key.TheVariants as key

-- an attribute stands in each row
pub attribute-within : (d : Definition) → IsSound d → (q : Asked) (attribute : Attribute) → IsAttributeOf d q attribute
    → attribute_place d attribute.place < length (shape_of d)
attribute-within d sound q attribute of =
    slice_get_within (shape_of d) (attribute_place d attribute.place) (shape_column AttributeRole of.column)
    (attribute_there d sound attribute.place of.column of.named.here of.named.attribute)

module _ (c : Contents) (q : Asked) (attribute : Attribute) where
  pub row-text : IsAttributeOf c.definition q attribute → (row : ℕ) (text : List ℕ)
      → IsPrintedAt c.definition c.rows row (attribute_place c.definition attribute.place) text
      → HasCellText c q attribute (Some row) text
  row-text of row text is = (of.column, of.named, is)

  pub missing-text : IsAttributeOf c.definition q attribute → (text : List ℕ) → text ≡ attribute.missing → HasCellText c q attribute None text
  missing-text of text e = (of.column, of.named, (of.value, of.stands, e ∙ of.missing))

  pub attribute-text : (fields : List Field) (text : List ℕ) (key : Key) (found : Option ℕ) → ReadsKey c.definition fields key
      → Finds c.definition c.rows key found → HasCellText c q attribute found text → IsAttributeText c q fields text
  attribute-text fields text key found reads finds has = record {
    key = key;
    found = found;
    place = attribute.place;
    column = has.0;
    reads = reads;
    finds = finds;
    named = has.1;
    is = has.2;
  }

  -- the text of what stands in, where no cell was found
  pub no-cell-text : IsAttributeOf c.definition q attribute → (column : ℕ) (text : List ℕ) → text ≡ attribute.missing
      → HasTextOf c q attribute column None text
  no-cell-text of column text e None has = missing-text of text e
  no-cell-text of column text e (Some row) has = absurd has

  -- the text of a cell that was found
  pub cell-text : IsAttributeOf c.definition q attribute → (column : ℕ) (cell : Cell) (text : List ℕ)
      → column ≡ attribute_place c.definition attribute.place → IsPrintedIn c.definition c.rows column (meaning cell) text
      → HasTextOf c q attribute column (Some cell) text
  cell-text of column cell text is printed None has = absurd has
  cell-text of column cell text is printed (Some row) has =
      row-text of row text (subst (λ k. IsPrintedAt c.definition c.rows row k text) is (printed row has.0 has.1))

  -- the line of the cell that a number finds
  pub number-line : (column : ℕ) (fields : List Field) (n : ℕ) (cell : Option Cell) (line : Line) → ReadsKey c.definition fields (key.Simple n)
      → IsCellFor c column n cell → (line.moment ≡ 0) × HasTextOf c q attribute column cell line.text → HasLine c q fields line
  number-line column fields n cell line reads of_number text =
      (text.0, attribute-text fields line.text (key.Simple n) of_number.0 reads of_number.1 (text.1 of_number.0 of_number.2))

-- a cell that was found stands in a row
pub has-stands : (c : Contents) (column : ℕ) (found : Option ℕ) (cell : Option Cell) → HasCell c column found cell → MayStand c column cell
has-stands c column None None has = tt
has-stands c column None (Some cell) has = absurd has
has-stands c column (Some row) None has = absurd has
has-stands c column (Some row) (Some cell) has = (row, has.0, has.1)

-- a verb that asks for an attribute is answered by its text
attribute-by : (v : Verb) (c : Contents) (q : Asked) (fields : List Field) (text : List ℕ) → IsTrue (asks_attribute v)
    → IsAttributeText c q fields text → IsTextBy v c q fields text
attribute-by verb.Get c q fields text a is = is
attribute-by verb.GetOrDefault c q fields text a is = is
attribute-by verb.GetOrNull c q fields text a is = is
attribute-by verb.Has c q fields text a is = absurd (cc)
attribute-by verb.Call c q fields text a is = absurd (cc)
attribute-by verb.Hierarchy c q fields text a is = absurd (cc)
attribute-by verb.IsIn c q fields text a is = absurd (cc)
attribute-by verb.Children c q fields text a is = absurd (cc)
attribute-by verb.Descendants c q fields text a is = absurd (cc)

pub attribute-is : (c : Contents) (q : Asked) (fields : List Field) (text : List ℕ) → IsTrue (asks_attribute q.verb)
    → IsAttributeText c q fields text → IsText c q fields text
attribute-is c q fields text asks is = attribute-by q.verb c q fields text asks is

pub has-is : (c : Contents) (q : Asked) (fields : List Field) (text : List ℕ) → q.verb ≡ verb.Has → IsHasText c fields text
    → IsText c q fields text
has-is c q fields text asks is = subst (λ v. IsTextBy v c q fields text) (sym asks) is
