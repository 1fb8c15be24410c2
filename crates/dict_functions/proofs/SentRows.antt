-- Rows that are written for a program.
use Rattle.std.proofs.Common.{◌≡◌, ◌≢◌, ◌<◌, ◌+◌, ◌++◌, ◌∷◌, [], ℕ, zero, suc, List, get_or, length, take, refl, sym, ap, subst, arith}
use Rattle.std.specs.Prelude.{All}
use Rattle.std.specs.List.{AllZip}
use Rattle.std.proofs.lemmas.List.Elements.{All-cons, All-nil}
use Rattle.dict_value.specs.Values.{FitsColumn, value_text}
use Rattle.dict_value.specs.declared.value.AttrType.{AttrType}
use Rattle.dict_value.specs.declared.value.ColType.{ColType}
use Rattle.dict_value.specs.declared.value.Field.{Field}
use Rattle.dict_value.specs.declared.value.Field.TheVariants as field
use Rattle.dict_value.specs.declared.value.Format.{Format}
use Rattle.dict_value.specs.declared.value.Value.{Value}
use Rattle.dict_value.specs.declared.value.Value.TheVariants.{U, I, S, Day, Second, Id, V4, V6, Dec, Null}
use Rattle.row_text.specs.Written.{written_field, written_fields}
use Rattle.wire_text.specs.declared.reply.ReplyFault.{ReplyFault}
use Rattle.dict_functions.specs.Keys.{IsFirstWithout}
use Rattle.dict_functions.specs.Sending.{AreUnsent, HasValues}
use Rattle.dict_functions.specs.declared.lines.LinesFault.{LinesFault}
use Rattle.dict_functions.specs.declared.lines.LinesFault.TheVariants as several
use Rattle.dict_functions.specs.declared.sending.RowsFault.TheVariants as rows
use Rattle.dict_functions.specs.steps.Lines.{rows_fault, unread_rows}

-- a value that isn't NULL is written as its text
pub written-text : (t : ColType) (v : Value) → v ≢ Null → written_field t v ≡ field.Text (value_text t v)
written-text t Null some = absurd (some refl)
written-text t (U n) some = refl
written-text t (I n) some = refl
written-text t (S n) some = refl
written-text t (Day n) some = refl
written-text t (Second n) some = refl
written-text t (Id n) some = refl
written-text t (V4 n) some = refl
written-text t (V6 n) some = refl
written-text t (Dec n) some = refl

-- a value fits its type
pub fits-at : (types : List AttrType) (values : List Value) (i : ℕ) (d : AttrType) (v : Value) → AllZip FitsColumn types values
    → i < length types → v ≡ get_or values i v → FitsColumn (get_or types i d) v
fits-at [] values i d v zip low at = absurd (omega (arith, low))
fits-at (t ∷ types) [] i d v zip low at = absurd zip
fits-at (t ∷ types) (w ∷ values) zero d v zip low at = subst (FitsColumn t) (sym at) zip.0
fits-at (t ∷ types) (w ∷ values) (suc i) d v zip low at = fits-at types values i d v zip.1 (omega (arith, low)) at

-- a field more
pub written-more : (types : List AttrType) (values : List Value) (i : ℕ) (d : AttrType) (v : Value) → i < length types → i < length values
    → v ≡ get_or values i v
    → written_fields (take (i + 1) types) (take (i + 1) values) ≡ written_fields (take i types) (take i values) ++ written_field (get_or types i d).base v ∷ []
written-more [] values i d v low also at = absurd (omega (arith, low))
written-more (t ∷ types) [] i d v low also at = absurd (omega (arith, also))
written-more (t ∷ types) (w ∷ values) zero d v low also at = ap (λ x. written_field t.base x ∷ []) (sym at)
written-more (t ∷ types) (w ∷ values) (suc i) d v low also at =
    let next : suc i + 1 ≡ suc (i + 1) = omega arith in
    let rest : written_fields (take (suc (i + 1)) (t ∷ types)) (take (suc (i + 1)) (w ∷ values))
    ≡ written_fields (take (suc i) (t ∷ types)) (take (suc i) (w ∷ values)) ++ written_field (get_or types i d).base v ∷ [] =
    ap (λ l. written_field t.base w ∷ l) (written-more types values i d v (omega (arith, low)) (omega (arith, also)) at) in
    subst (λ n. written_fields (take n (t ∷ types)) (take n (w ∷ values))
    ≡ written_fields (take (suc i) (t ∷ types)) (take (suc i) (w ∷ values)) ++ written_field (get_or types i d).base v ∷ []) (sym next) rest

-- a row has a field for each type, and so has some
pub fields-some : (types : List AttrType) (values : List Value) → types ≢ [] → AllZip FitsColumn types values → written_fields types values ≢ []
fields-some [] values some zip = absurd (some refl)
fields-some (t ∷ types) [] some zip = absurd zip
fields-some (t ∷ types) (v ∷ values) some zip = λ e. absurd (cc)

-- what holds of each second one of two lists
pub zip-second : {A B : Type 0} (R : A → B → Type 0) (P : B → Type 0) → ((x : A) (y : B) → R x y → P y) → (xs : List A) (ys : List B)
    → AllZip R xs ys → All P ys
zip-second R P to [] [] zip = All-nil P
zip-second R P to [] (y ∷ ys) zip = absurd zip
zip-second R P to (x ∷ xs) [] zip = absurd zip
zip-second R P to (x ∷ xs) (y ∷ ys) zip = All-cons P y ys (to x y zip.0) (zip-second R P to xs ys zip.1)

-- a line that can't be read
pub unread-refused : (format : Format) (types : List AttrType) (lines : List (List Field)) (f : LinesFault)
    → ((n : ℕ) → f ≡ several.Unread n → IsFirstWithout (HasValues types) lines n) → unread_rows f ≢ rows.NoMemory
    → (unread : ℕ → ReplyFault) → AreUnsent format types lines unread (rows_fault unread (unread_rows f))
unread-refused format types lines (several.Unread n) first other unread = AreUnsent.unread (first n refl)
unread-refused format types lines several.NoMemory first other unread = absurd (other refl)
