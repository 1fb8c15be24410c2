-- Values that are read one after another, and a row in the decoding of its text.
use Rattle.std.proofs.Common.{◌≡◌, ◌<◌, ◌+◌, ◌∷◌, ◌++◌, ◌∙◌, [], ℕ, List, length, map, Ok, refl, sym, ap, subst, arith, inl, inr}
use Rattle.std.proofs.lemmas.List.{length-append, take_all, take_rest}
use Rattle.dict_value.specs.declared.value.Field.{Field}
use Rattle.dict_value.specs.declared.value.Format.{Format}
use Rattle.dict_value.specs.declared.value.Value.{Value}
use Rattle.packed_rows.specs.Packs.{Building}
use Rattle.row_text.specs.Cutting.{ended}
use Rattle.row_text.specs.Decoding.{Reader, readings, rule_of}
use Rattle.row_text.specs.steps.CutSteps.{BeginsWithLine}
use Rattle.row_text.specs.steps.DecodeSteps.{AddsLine}
use Rattle.row_text.specs.steps.DirectSteps.{AddsValue, AreValues, TakesRow}
use Rattle.row_text.proofs.Fitted.{readings-more}
use Rattle.row_text.proofs.Reached.{suffix}

-- no value yet
pub values-none : (columns : List Reader) → AreValues columns [] []
values-none columns = record { count = refl; typed = refl }

-- one value more
pub values-more : (columns : List Reader) (fields : List Field) (field : Field) (row new : List Value) → AreValues columns fields row → length row < length columns → AddsValue columns field row new
    → AreValues columns (fields ++ field ∷ []) new
values-more columns fields field row new are below adds =
    subst (λ (r : List Value). AreValues columns (fields ++ field ∷ []) r) (sym adds.1) (record {
      count = omega (arith, are.count, length-append fields (field ∷ []), length-append row (adds.0 ∷ []));
      typed = readings-more columns fields row field adds.0 are.typed are.count below adds.2;
    })

-- a value for each column
pub values-all : (columns : List Reader) (fields : List Field) (row : List Value) → AreValues columns fields row → length row ≡ length columns → readings columns fields ≡ map Ok row
values-all columns fields row are all = ap (λ (cs : List Reader). readings cs fields) (sym (take_all (length row) columns (omega (arith, all)))) ∙ are.typed

pub adds-length : (columns : List Reader) (field : Field) (old new : List Value) (place : ℕ) → AddsValue columns field old new → length old ≡ place → length new ≡ place + 1
adds-length columns field old new place adds size =
    omega (arith, ap (λ (vs : List Value). length vs) adds.1, length-append old (adds.0 ∷ []), size)

-- the row that is taken, in the decoding of its text

pub row-begins : (format : Format) (columns : List Reader) (text : List ℕ) (size : ℕ) (old new : Building) → (takes : TakesRow format columns text size old new)
    → BeginsWithLine (rule_of format) text takes.has.line size
row-begins format columns text size old new takes = (takes.has.whole, takes.has.within, takes.has.joined)

pub row-adds : (format : Format) (columns : List Reader) (text : List ℕ) (size : ℕ) (old new : Building) → (takes : TakesRow format columns text size old new)
    → AddsLine format columns takes.has.line old.rows new.rows
row-adds format columns text size old new takes =
    inr (takes.has.is_row, takes.room, (takes.row, takes.has.typed, ap (λ (b : Building). b.rows) takes.added))
