-- A request asks for one thing.
use Rattle.std.proofs.Common.{◌≡◌, ◌<◌, ◌≤◌, ◌⊎◌, ◌∙◌, ℕ, zero, suc, List, [], ◌∷◌, Bool, true, false, Option, Some, None, length}
use Rattle.std.proofs.Common.{refl, sym, ap, subst, inl, inr, arith, slice_get}
use Rattle.std.specs.List.{IsFirstMatchOrLen}
use Rattle.std.proofs.lemmas.Bool.{cases_lt}
use Rattle.dict_schema.specs.declared.definition.Item.{Item}
use Rattle.dict_schema.specs.declared.definition.Item.TheVariants.{Dictionary, Function}
use Rattle.dict_session.specs.Asks.{IsAskOf, IsLookupAsk, IsRequestAsk, OfDictionary, OfFunction, apply_ask, load_ask, look_ask, reach_ask, show_ask, teach_ask}
use Rattle.dict_session.specs.Items.{is_dictionary_named, is_function_named}
use Rattle.dict_session.specs.declared.ask.Ask.{Ask}
use Rattle.wire_text.specs.RequestTexts.{Heard}
use Rattle.wire_text.specs.declared.request.Request.{Request}
use Rattle.wire_text.specs.declared.request.Request.TheVariants as request
use Rattle.wire_text.specs.declared.request.Verb.{Verb}
use Rattle.wire_text.specs.declared.request.Verb.TheVariants as verb

get_behind : (items : List Item) (i : ℕ) → length items ≤ i → slice_get items i ≡ None
get_behind [] i high = refl
get_behind (x ∷ items) zero high = absurd (omega (arith, high))
get_behind (x ∷ items) (suc i) high = get_behind items i (omega (arith, high))

-- of two first matches neither comes before the other within the list
not_before : (p : Item → Bool) (items : List Item) (i j : ℕ) → IsFirstMatchOrLen p items i → IsFirstMatchOrLen p items j → i < j → i < length items → ⊥
not_before p [] i j a b low within = omega (arith, within)
not_before p (x ∷ items) i j a b low within = cc (sym (a.1 within x) ∙ b.0 i x (omega arith) low)

lower : (p : Item → Bool) (items : List Item) (i j : ℕ) → IsFirstMatchOrLen p items i → IsFirstMatchOrLen p items j → i < j → (slice_get items i ≡ None) × (slice_get items j ≡ None)
lower p items i j a b low = elim (cases_lt i (length items)) [
  | inl within ↦ absurd (not_before p items i j a b low within)
  | inr behind ↦ (get_behind items i behind, get_behind items j (omega (arith, behind, low)))
]

match_once : (p : Item → Bool) (items : List Item) (i j : ℕ) → IsFirstMatchOrLen p items i → IsFirstMatchOrLen p items j → (i ≡ j) ⊎ ((slice_get items i ≡ None) × (slice_get items j ≡ None))
match_once p items i j a b = elim (cases_lt i j) [
  | inl low ↦ inr (lower p items i j a b low)
  | inr high ↦ elim (cases_lt j i) [
    | inl low ↦ let c = lower p items j i b a low in inr (c.1, c.0)
    | inr not ↦ inl (omega (arith, high, not))
  ]
]

-- what is asked of the item at a place
asks_same : (asks : ℕ → Option Item → Ask) (items : List Item) (i j : ℕ) → asks i None ≡ asks j None → (i ≡ j) ⊎ ((slice_get items i ≡ None) × (slice_get items j ≡ None)) → asks i (slice_get items i) ≡ asks j (slice_get items j)
asks_same asks items i j none (inl e) = ap (λ k. asks k (slice_get items k)) e
asks_same asks items i j none (inr e) = ap (asks i) e.0 ∙ none ∙ ap (asks j) (sym e.1)

dictionary_once : (items : List Item) (name : List ℕ) (asks : ℕ → Option Item → Ask) (a b : Ask) → ((i j : ℕ) → asks i None ≡ asks j None) → OfDictionary items name asks a → OfDictionary items name asks b → a ≡ b
dictionary_once items name asks a b none (i, p, e) (j, q, f) =
    e ∙ asks_same asks items i j (none i j) (match_once (is_dictionary_named name) items i j p q) ∙ sym f

function_once : (items : List Item) (name : List ℕ) (asks : ℕ → Option Item → Ask) (a b : Ask) → ((i j : ℕ) → asks i None ≡ asks j None) → OfFunction items name asks a → OfFunction items name asks b → a ≡ b
function_once items name asks a b none (i, p, e) (j, q, f) =
    e ∙ asks_same asks items i j (none i j) (match_once (is_function_named name) items i j p q) ∙ sym f

lookup_once : (items : List Item) (v : Verb) (name : List ℕ) (a b : Ask) → IsLookupAsk items v name a → IsLookupAsk items v name b → a ≡ b
lookup_once items verb.Call name a b p q = function_once items name apply_ask a b (λ i j. refl) p q
lookup_once items v name a b p q = dictionary_once items name look_ask a b (λ i j. refl) p q

request_once : (items : List Item) (r : Request) (a b : Ask) → IsRequestAsk items r a → IsRequestAsk items r b → a ≡ b
request_once items (request.Asked q) a b p r = lookup_once items q.verb q.name a b p r
request_once items (request.Reload name) a b p r = dictionary_once items name load_ask a b (λ i j. refl) p r
request_once items (request.Status name) a b p r = dictionary_once items name teach_ask a b (λ i j. refl) p r
request_once items (request.After name number) a b p r = dictionary_once items name (reach_ask number) a b (λ i j. refl) p r
request_once items (request.Show name) a b (i, j, p, q, e) (k, l, r, s, f) =
    e ∙ asks_same (λ n item. show_ask n item j (slice_get items j)) items i k refl (match_once (is_dictionary_named name) items i k p r)
    ∙ asks_same (λ n item. show_ask k (slice_get items k) n item) items j l (shown (slice_get items k)) (match_once (is_function_named name) items j l q s) ∙ sym f
  where
    shown : (item : Option Item) → show_ask k item j None ≡ show_ask k item l None
    shown None = refl
    shown (Some (Dictionary d)) = refl
    shown (Some (Function d)) = refl
request_once items request.Config a b p r = p ∙ sym r
request_once items request.Quit a b p r = p ∙ sym r

pub ask_once : (items : List Item) (h : Heard) (a b : Ask) → IsAskOf items h a → IsAskOf items h b → a ≡ b
ask_once items (Heard.asks asked) a b p q = request_once items asked a b p q
ask_once items Heard.bad a b p q = p ∙ sym q
ask_once items Heard.too_large a b p q = p ∙ sym q
