-- Acts, one after the other, and what they say of the views and the floors.
use Rattle.std.proofs.Common.{◌≡◌, ◌≤◌, ◌==◌, ◌++◌, ◌∙◌, ℕ, List, [], ◌∷◌, Bool, true, false, Option, Some, None, Result, Ok, Err}
use Rattle.std.proofs.Common.{length, max, refl, sym, ap, subst, arith, if◌then◌else◌}
use Rattle.std.proofs.lemmas.Bool.{eqb-true}
use Rattle.std.specs.List.{AllByRecursion}
use Rattle.std.specs.Prelude.{IfOk}
use mathlib.Core.List.{IsPrefix}
use Rattle.dict_session.specs.Acts.{DeskCall, Moment, Before, Entered, Taught, Reloaded, Keyed, Called, Configured, Leads}
use Rattle.dict_session.specs.Floors.{IsRight, IsSeenIn, IsVersionIn, KeepsFloor, Moved, NeverFalls, floor_after, floor_raised}
use Rattle.dict_schema.specs.declared.definition.Definition.{Definition}
use Rattle.dict_schema.specs.declared.definition.FunctionDef.{FunctionDef}
use Rattle.dict_session.specs.Facts.{EachFetched, EachReturned, Facts, Grows}
use Rattle.dict_session.specs.Items.{IsFunctionItem, IsKeyedItem}
use Rattle.dict_value.specs.declared.fault.CallFault.{CallFault}
use Rattle.dict_value.specs.declared.fault.FetchFault.{FetchFault}
use Rattle.dict_value.specs.declared.value.FetchedRow.{FetchedRow}
use Rattle.dict_value.specs.declared.value.Value.{Value}
use Rattle.dict_session.specs.declared.desk.ConfigEnd.{ConfigEnd}
use Rattle.dict_version.specs.Contents.{Contents}
use Rattle.loader.specs.declared.answers.LoadEnd.{LoadEnd}
use Rattle.loader.specs.declared.answers.LoadEnd.TheVariants as end
use Rattle.loader.specs.declared.answers.StatusRow.{StatusRow}
use Rattle.version_slot.proofs.Views.{entry-prefix, entry-within, prefix-chain, prefix-length, prefix-self}
use Rattle.version_slot.specs.Views.{Entered as Seen, IsNewestOf, entry}
use Rattle.version_slot.specs.declared.seen.EnterFault.{EnterFault}

-- ---- what was seen stands in the view

nothing_in : (view : List Contents) (n : ℕ) → n ≡ length view → None ≡ entry view (length view) → n ≡ 0
nothing_in [] n e f = e
nothing_in (x ∷ xs) n e f =
    let some = entry-within (x ∷ xs) (length xs) (omega arith) in
    let other : None ≡ Some some.0 = f ∙ some.1 in absurd (cc)

version_in : (view : List Contents) (n : ℕ) (v : Option Contents) → n ≡ length view → v ≡ entry view (length view) → IsVersionIn view n v
version_in view n None e f = nothing_in view n e f
version_in view n (Some c) e f = ap (entry view) e ∙ sym f

seen_in : (view : List Contents) (seen : Seen Contents) → IsNewestOf view seen → IsSeenIn view seen
seen_in view seen newest = record {
  within = omega (arith, newest.number);
  version = version_in view seen.number seen.version newest.number newest.version;
}

version_grows : (old new : List Contents) (n : ℕ) (v : Option Contents) → IsPrefix old new → IsVersionIn old n v → IsVersionIn new n v
version_grows old new n None p is = is
version_grows old new n (Some c) p is = entry-prefix old new p n c is

seen_grows : (old new : List Contents) (seen : Seen Contents) → IsPrefix old new → IsSeenIn old seen → IsSeenIn new seen
seen_grows old new seen p is = record {
  within = let longer = prefix-length old new p in omega (arith, is.within);
  version = version_grows old new seen.number seen.version p is.version;
}

-- ---- floors

if_max : (b : Bool) (low high n m : ℕ) → low ≤ high → n ≤ m → (if b then max low n else low) ≤ (if b then max high m else high)
if_max true low high n m h k = omega arith
if_max false low high n m h k = h

if_top : (d e : ℕ) (b : Bool) (floor n : ℕ) (top : ℕ → ℕ) → (d == e) ≡ b → floor ≤ top e → n ≤ top d
    → (if b then max floor n else floor) ≤ top e
if_top d e true floor n top is h k = let same = ap top (eqb-true d e is) in omega (arith, same)
if_top d e false floor n top is h k = h

raised_mono : (e low high : ℕ) (act : DeskCall) → low ≤ high → floor_raised e low act ≤ floor_raised e high act
raised_mono e low high (Moment now) h = h
raised_mono e low high (Before now) h = h
raised_mono e low high (Entered d (Ok seen)) h = if_max (d == e) low high seen.number seen.number h (omega arith)
raised_mono e low high (Entered d (Err fault)) h = h
raised_mono e low high (Taught d row) h = if_max (d == e) low high row.number row.number h (omega arith)
raised_mono e low high (Reloaded d now (end.Published n)) h = if_max (d == e) low high n n h (omega arith)
raised_mono e low high (Reloaded d now (end.Failed cause)) h = h
raised_mono e low high (Reloaded d now end.NoMemory) h = h
raised_mono e low high (Keyed d now keys answer) h = h
raised_mono e low high (Called f rows answer) h = h
raised_mono e low high (Configured now answer) h = h

keeps_lower : (e low high : ℕ) (act : DeskCall) → low ≤ high → KeepsFloor e high act → KeepsFloor e low act
keeps_lower e low high (Moment now) h k = tt
keeps_lower e low high (Before now) h k = tt
keeps_lower e low high (Entered d (Ok seen)) h k = λ same. let above = k same in omega arith
keeps_lower e low high (Entered d (Err fault)) h k = tt
keeps_lower e low high (Taught d row) h k = tt
keeps_lower e low high (Reloaded d now answer) h k = tt
keeps_lower e low high (Keyed d now keys answer) h k = tt
keeps_lower e low high (Called f rows answer) h k = tt
keeps_lower e low high (Configured now answer) h k = tt

pub floor_mono : (e low high : ℕ) (acts : List DeskCall) → low ≤ high → floor_after e low acts ≤ floor_after e high acts
floor_mono e low high [] h = h
floor_mono e low high (act ∷ acts) h = floor_mono e (floor_raised e low act) (floor_raised e high act) acts (raised_mono e low high act h)

never_lower : (e low high : ℕ) (acts : List DeskCall) → low ≤ high → NeverFalls e high acts → NeverFalls e low acts
never_lower e low high [] h k = tt
never_lower e low high (act ∷ acts) h k = (
  keeps_lower e low high act h k.0,
  never_lower e (floor_raised e low act) (floor_raised e high act) acts (raised_mono e low high act h) k.1,
)

pub floor_append : (e floor : ℕ) (xs ys : List DeskCall) → floor_after e floor (xs ++ ys) ≡ floor_after e (floor_after e floor xs) ys
floor_append e floor [] ys = refl
floor_append e floor (act ∷ xs) ys = floor_append e (floor_raised e floor act) xs ys

never_append : (e floor : ℕ) (xs ys : List DeskCall) → NeverFalls e floor xs → NeverFalls e (floor_after e floor xs) ys → NeverFalls e floor (xs ++ ys)
never_append e floor [] ys h k = k
never_append e floor (act ∷ xs) ys h k = (h.0, never_append e (floor_raised e floor act) xs ys h.1 k)

-- ---- acts

leads_append : {S : Type 0} (did : S → DeskCall → S → Type 0) (s t u : S) (xs ys : List DeskCall) → Leads did s xs t → Leads did t ys u → Leads did s (xs ++ ys) u
leads_append did s t u [] ys h k = subst (λ z. Leads did z ys u) h k
leads_append did s t u (act ∷ xs) ys h k = (h.0, h.1, leads_append did h.0 t u xs ys h.2 k)

pub all_append : {A : Type 0} (P : A → Type 0) (xs ys : List A) → AllByRecursion P xs → AllByRecursion P ys → AllByRecursion P (xs ++ ys)
all_append P [] ys h k = k
all_append P (x ∷ xs) ys h k = (h.0, all_append P xs ys h.1 k)

module _ {S : Type 0} (facts : Facts S) where
  right_grows : (t u : S) → Grows facts t u → (act : DeskCall) → IsRight facts t act → IsRight facts u act
  right_grows t u g (Moment now) is = tt
  right_grows t u g (Before now) is = tt
  right_grows t u g (Entered d (Ok seen)) is = seen_grows (facts.view t d) (facts.view u d) seen (g.views d) is
  right_grows t u g (Entered d (Err fault)) is = tt
  right_grows t u g (Taught d row) is = let longer = prefix-length (facts.view t d) (facts.view u d) (g.views d) in omega arith
  right_grows t u g (Reloaded d now (end.Published n)) is = let longer = prefix-length (facts.view t d) (facts.view u d) (g.views d) in omega arith
  right_grows t u g (Reloaded d now (end.Failed cause)) is = tt
  right_grows t u g (Reloaded d now end.NoMemory) is = tt
  right_grows t u g (Keyed d now keys (Ok rows)) is = λ definition item. is definition (subst (λ items. IsKeyedItem items d definition) g.items item)
  right_grows t u g (Keyed d now keys (Err why)) is = tt
  right_grows t u g (Called f rows (Ok values)) is = λ definition item. is definition (subst (λ items. IsFunctionItem items f definition) g.items item)
  right_grows t u g (Called f rows (Err why)) is = tt
  right_grows t u g (Configured now answer) is = tt

  all_right_grows : (t u : S) → Grows facts t u → (acts : List DeskCall) → AllByRecursion (IsRight facts t) acts → AllByRecursion (IsRight facts u) acts
  all_right_grows t u g [] is = tt
  all_right_grows t u g (act ∷ acts) is = (right_grows t u g act is.0, all_right_grows t u g acts is.1)

  pub grows_self : (s : S) → Grows facts s s
  grows_self s = record { views = λ d. prefix-self (facts.view s d); items = refl }

  grows_chain : (s t u : S) → Grows facts s t → Grows facts t u → Grows facts s u
  grows_chain s t u a b = record {
    views = λ d. prefix-chain (facts.view s d) (facts.view t d) (facts.view u d) (a.views d) (b.views d);
    items = b.items ∙ a.items;
  }

  longer : (s t : S) → Grows facts s t → (e : ℕ) → length (facts.view s e) ≤ length (facts.view t e)
  longer s t g e = prefix-length (facts.view s e) (facts.view t e) (g.views e)

  pub moved_none : (s : S) → Moved facts s [] s
  moved_none s = record { leads = refl; grows = grows_self s; right = tt; floors = λ e. tt; top = λ e. omega arith }

  pub moved_append : (s t u : S) (xs ys : List DeskCall) → Moved facts s xs t → Moved facts t ys u → Moved facts s (xs ++ ys) u
  moved_append s t u xs ys a b = record {
    leads = leads_append facts.did s t u xs ys a.leads b.leads;
    grows = grows_chain s t u a.grows b.grows;
    right = all_append (IsRight facts u) xs ys (all_right_grows t u b.grows xs a.right) b.right;
    floors = λ e. never_append e (length (facts.view s e)) xs ys (a.floors e)
        (never_lower e (floor_after e (length (facts.view s e)) xs) (length (facts.view t e)) ys (a.top e) (b.floors e));
    top = λ e. rw floor_append
        (let one = floor_mono e (floor_after e (length (facts.view s e)) xs) (length (facts.view t e)) ys (a.top e) in
        let two = b.top e in omega arith);
  }

  -- one act that tells no number
  pub moved_moment : (s t : S) (now : ℕ) → facts.did s (Moment now) t → Grows facts s t → Moved facts s (Moment now ∷ []) t
  moved_moment s t now did g = record { leads = (t, did, refl); grows = g; right = (tt, tt); floors = λ e. (tt, tt); top = longer s t g }

  pub moved_before : (s t : S) (now : ℕ) → facts.did s (Before now) t → Grows facts s t → Moved facts s (Before now ∷ []) t
  moved_before s t now did g = record { leads = (t, did, refl); grows = g; right = (tt, tt); floors = λ e. (tt, tt); top = longer s t g }

  pub moved_config : (s t : S) (now : ℕ) (answer : ConfigEnd) → facts.did s (Configured now answer) t → Grows facts s t → Moved facts s (Configured now answer ∷ []) t
  moved_config s t now answer did g = record { leads = (t, did, refl); grows = g; right = (tt, tt); floors = λ e. (tt, tt); top = longer s t g }

  pub moved_entered : (s t : S) (d : ℕ) (answer : Result (Seen Contents) EnterFault) → facts.did s (Entered d answer) t → Grows facts s t
      → IfOk answer (IsNewestOf (facts.view t d)) → Moved facts s (Entered d answer ∷ []) t
  moved_entered s t d (Ok seen) did g newest = record {
    leads = (t, did, refl);
    grows = g;
    right = (seen_in (facts.view t d) seen newest, tt);
    floors = λ e. ((λ same. let up = longer s t g d in let on = ap (λ n. length (facts.view s n)) same in omega (arith, newest.number)), tt);
    top = λ e. if_top d e (d == e) (length (facts.view s e)) seen.number (λ n. length (facts.view t n)) refl (longer s t g e) (omega (arith, newest.number));
  }
  moved_entered s t d (Err fault) did g newest = record { leads = (t, did, refl); grows = g; right = (tt, tt); floors = λ e. (tt, tt); top = longer s t g }

  pub moved_taught : (s t : S) (d : ℕ) (row : StatusRow) → facts.did s (Taught d row) t → Grows facts s t
      → row.number ≤ length (facts.view t d) → Moved facts s (Taught d row ∷ []) t
  moved_taught s t d row did g learnt = record {
    leads = (t, did, refl);
    grows = g;
    right = (learnt, tt);
    floors = λ e. (tt, tt);
    top = λ e. if_top d e (d == e) (length (facts.view s e)) row.number (λ n. length (facts.view t n)) refl (longer s t g e) learnt;
  }

  pub moved_reloaded : (s t : S) (d now : ℕ) (answer : LoadEnd) → facts.did s (Reloaded d now answer) t → Grows facts s t
      → ((n : ℕ) → answer ≡ end.Published n → n ≤ length (facts.view t d)) → Moved facts s (Reloaded d now answer ∷ []) t
  moved_reloaded s t d now (end.Published n) did g learnt = record {
    leads = (t, did, refl);
    grows = g;
    right = (learnt n refl, tt);
    floors = λ e. (tt, tt);
    top = λ e. if_top d e (d == e) (length (facts.view s e)) n (λ k. length (facts.view t k)) refl (longer s t g e) (learnt n refl);
  }
  moved_reloaded s t d now (end.Failed cause) did g learnt = record { leads = (t, did, refl); grows = g; right = (tt, tt); floors = λ e. (tt, tt); top = longer s t g }
  moved_reloaded s t d now end.NoMemory did g learnt = record { leads = (t, did, refl); grows = g; right = (tt, tt); floors = λ e. (tt, tt); top = longer s t g }

  pub moved_keyed : (s t : S) (d now : ℕ) (keys : List (List Value)) (answer : Result (List FetchedRow) FetchFault)
      → facts.did s (Keyed d now keys answer) t → Grows facts s t
      → ((definition : Definition) → IsKeyedItem (facts.items s) d definition → IfOk answer (EachFetched facts.gave definition now keys))
      → Moved facts s (Keyed d now keys answer ∷ []) t
  moved_keyed s t d now keys (Ok rows) did g fits = record {
    leads = (t, did, refl);
    grows = g;
    right = ((λ definition item. fits definition (subst (λ items. IsKeyedItem items d definition) g.items item)), tt);
    floors = λ e. (tt, tt);
    top = longer s t g;
  }
  moved_keyed s t d now keys (Err why) did g fits = record { leads = (t, did, refl); grows = g; right = (tt, tt); floors = λ e. (tt, tt); top = longer s t g }

  pub moved_called : (s t : S) (f : ℕ) (rows : List (List Value)) (answer : Result (List Value) CallFault)
      → facts.did s (Called f rows answer) t → Grows facts s t
      → ((definition : FunctionDef) → IsFunctionItem (facts.items s) f definition → IfOk answer (EachReturned definition rows))
      → Moved facts s (Called f rows answer ∷ []) t
  moved_called s t f rows (Ok values) did g fits = record {
    leads = (t, did, refl);
    grows = g;
    right = ((λ definition item. fits definition (subst (λ items. IsFunctionItem items f definition) g.items item)), tt);
    floors = λ e. (tt, tt);
    top = longer s t g;
  }
  moved_called s t f rows (Err why) did g fits = record { leads = (t, did, refl); grows = g; right = (tt, tt); floors = λ e. (tt, tt); top = longer s t g }
