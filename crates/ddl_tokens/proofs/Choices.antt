-- A choice by keywords keeps what the laws ask of it, and lists and optional parts stop at a sign.
use Rattle.std.proofs.Common.{◌≡◌, ◌⊎◌, ℕ, true, false, List, [], ◌∷◌, ◌++◌, Option, Some, None, Ok, Err, refl, sym, ap, subst, ◌∙◌, inl, inr}
use Rattle.std.proofs.lemmas.Bool.{cond-true, cond-false}
use Rattle.ddl_tokens.specs.declared.fault.SyntaxFault.{SyntaxFault}
use Rattle.ddl_tokens.specs.declared.letters.LetterCase.TheVariants.{AsWritten}
use Rattle.ddl_tokens.specs.Letters.{same_letters}
use Rattle.ddl_tokens.specs.Tokens.{Token}
use Rattle.ddl_tokens.specs.Reading.{◌>>=◌, Read, is_keyword, is_the_sign, passes}
use Rattle.ddl_tokens.specs.Laws.{first, place_of, Anyhow, Grammar, IsKeyword, IsSign, OptionalStops, Stopping, Then, passes_first}
use Rattle.ddl_tokens.specs.Lists.{Kind, LastStops, StandsApart, Step, chosen, chosen_ahead, kind_at, kind_by, next_once, once_of}
use Rattle.ddl_tokens.proofs.Laws.{first_passes, headed, keywords_apart, ok_of, sign_no_keyword, signs_apart}
use Rattle.ddl_tokens.proofs.Lists.{all_stop}

-- no token is refused for the kind that it begins
pub choice_placed : {K : Type 0} (keyword : K → List ℕ) (kinds : List K) (t : Token) (e : SyntaxFault) → kind_by keyword kinds t ≡ Err e
    → t.place ≡ place_of e
choice_placed keyword kinds t e h = absurd cc

-- a keyword is that of its own kind
chosen_is : {K : Type 0} (keyword : K → List ℕ) (k : K) (kinds : List K) (t : Token) → StandsApart keyword k kinds
    → is_keyword (keyword k) t ≡ true → chosen keyword kinds t ≡ Some k
unfolding chosen
chosen_is keyword k [] t apart e = absurd apart
chosen_is {K = K} keyword k (other ∷ kinds) t (inl same) e =
    cond-true (is_keyword (keyword other) t) _ _ (ap (λ (i : K). is_keyword (keyword i) t) same ∙ e) ∙ ap (λ (i : K). Some i) same
chosen_is keyword k (other ∷ kinds) t (inr apart) e =
    cond-false (is_keyword (keyword other) t) _ _ (keywords_apart (keyword k) (keyword other) t apart.0 e)
    ∙ chosen_is keyword k kinds t apart.1 e

-- what begins with the keyword of its kind begins with a token of its kind
pub choice_headed : {K A : Type 0} (keyword : K → List ℕ) (kinds : List K) (Rest : K → Grammar A) → ((k : K) → StandsApart keyword k kinds)
    → (k : K) (a : A) (own : List Token) → Then (IsKeyword (keyword k)) (λ _. Rest k) a own
    → (t : Token) × (rest : List Token) × (own ≡ t ∷ rest) × (kind_by keyword kinds t ≡ Ok (Some k))
choice_headed keyword kinds Rest places k a own h =
    let p = headed (is_keyword (keyword k)) (λ _. tt {0}) (λ _. Rest k) a own h in
    (p.0, p.1, p.2, ap ok_of (chosen_is keyword k kinds p.0 (places k) p.3))

nothing_ahead : {K : Type 0} (keyword : K → List ℕ) (kinds : List K) → chosen_ahead keyword kinds [] ≡ None
unfolding chosen_ahead passes
nothing_ahead keyword [] = refl
nothing_ahead keyword (k ∷ kinds) = nothing_ahead keyword kinds

token_ahead : {K : Type 0} (keyword : K → List ℕ) (kinds : List K) (t : Token) (ts : List Token)
    → chosen_ahead keyword kinds (t ∷ ts) ≡ chosen keyword kinds t
unfolding chosen_ahead chosen passes
token_ahead keyword [] t ts = refl
token_ahead keyword (k ∷ kinds) t ts = rw (token_ahead keyword kinds t ts) refl

-- the kind of the token in hand, as a reader tests it
choice_ahead : {K : Type 0} (keyword : K → List ℕ) (kinds : List K) (ts : List Token)
    → kind_at (kind_by keyword kinds) ts ≡ Ok (chosen_ahead keyword kinds ts)
unfolding kind_at
choice_ahead keyword kinds [] = ap ok_of (sym (nothing_ahead keyword kinds))
choice_ahead keyword kinds (t ∷ ts) = ap ok_of (sym (token_ahead keyword kinds t ts))

-- the next item, by the kind in hand
pub next_chosen : {K A : Type 0} (keyword : K → List ℕ) (kinds : List K) (item_at : K → List Token → Read A) (kind_number : K → ℕ) (number : A → ℕ)
    (wanted : List ℕ) (before : List A) (ts : List Token)
    → next_once (kind_by keyword kinds) item_at kind_number number wanted before ts
    ≡ once_of item_at kind_number number wanted before ts (chosen_ahead keyword kinds ts)
unfolding next_once
next_chosen {K = K} keyword kinds item_at kind_number number wanted before ts =
    ap (λ (r : Kind K). r >>= λ o. once_of item_at kind_number number wanted before ts o) (choice_ahead keyword kinds ts)

-- an optional part that begins with a keyword stops at a sign
pub optional_at_sign : {A : Type 0} (sign : ℕ) (word : List ℕ) (o : Option A) (t : Token) → is_the_sign sign t ≡ true
    → OptionalStops (is_keyword word) Anyhow o (Some t)
optional_at_sign sign word None t e = sign_no_keyword sign word t e
optional_at_sign sign word (Some a) t e = tt

-- a list stops at another sign than that between its items
pub list_at_sign : {A B : Type 0} (sign other : ℕ) (Stops : Stopping A) → same_letters AsWritten (other ∷ []) (sign ∷ []) ≡ false
    → ((a : A) (t : Token) → is_the_sign other t ≡ true → Stops a (Some t))
    → (Next : Unit {0} → Grammar B) (items : List A) (b : B) (ts rest : List Token) → Then (IsSign other) Next b ts
    → LastStops Stops items (first (ts ++ rest)) × (passes_first (is_the_sign sign) (first (ts ++ rest)) ≡ false)
list_at_sign sign other Stops apart at_sign Next items b ts rest h =
    let p = first_passes (is_the_sign other) (λ _. tt {0}) Next b ts rest h in
    subst (λ (o : Option Token). LastStops Stops items o × (passes_first (is_the_sign sign) o ≡ false)) (sym p.1)
    (all_stop Stops (Some p.0) items (λ a. at_sign a p.0 p.2), signs_apart other sign p.0 apart p.2)
