-- An order is read by its grammar: each part names the law that it is put together by.
use Rattle.std.proofs.Common.{◌≡◌, ℕ, true, List, [], ◌∷◌, Some, refl, ap, inl, inr}
use Rattle.std.specs.Prelude.{codes, Option}
use Rattle.ddl_tokens.specs.declared.token.TokenKind.TheVariants.{Word, Number, String}
use Rattle.ddl_tokens.specs.Letters.{same_letters}
use Rattle.ddl_tokens.specs.Tokens.{Token}
use Rattle.ddl_tokens.specs.Reading.{is_keyword, is_the_sign, is_name, is_number, is_string}
use Rattle.ddl_tokens.specs.Laws.{Anyhow, Lawful, IsBytes, Made, Optional, OptionalStops}
use Rattle.ddl_tokens.specs.Lists.{BeginsNone, StandsApart, kind_by, once_of, repeat}
use Rattle.ddl_tokens.proofs.Choices.{choice_headed, choice_placed, list_at_sign, next_chosen, optional_at_sign}
use Rattle.ddl_tokens.proofs.Laws.{bytes, headed, keyword, made, optional, sign, then, then_after}
use Rattle.ddl_tokens.proofs.Lists.{separated}
use Rattle.ddl_tokens.proofs.Once.{in_any_order}
use Rattle.ddl_tokens_example.specs.declared.order.Item.{Item}
use Rattle.ddl_tokens_example.specs.declared.order.Clause.{Clause}
use Rattle.ddl_tokens_example.specs.declared.order.Clause.TheVariants as clause
use Rattle.ddl_tokens_example.specs.declared.order.ClauseKind.{ClauseKind}
use Rattle.ddl_tokens_example.specs.declared.order.ClauseKind.TheVariants as kind
use Rattle.ddl_tokens_example.specs.Grammar as grammar
use Rattle.ddl_tokens_example.specs.Grammar.{item, order, IsTimes, IsItem, ItemStops, IsClause, kinds, kind_number, number, wanted, AreClauses, IsOrder, OrderStops}
use Rattle.ddl_tokens_example.specs.Reading.{times_at, item_at, clause_ahead, clause_at, next_clause, order_at}

times_law : {Before : Option Token → Type 0} → Lawful Before times_at (Optional IsTimes) (OptionalStops (is_keyword (codes "TIMES")) Anyhow)
unfolding times_at
times_law = optional (is_keyword (codes "TIMES")) (headed (is_keyword (codes "TIMES")) (λ _. tt {0}) (λ _. IsBytes is_number)) (then (keyword (codes "TIMES")) (λ _. bytes is_number Number refl))

item_law : {Before : Option Token → Type 0} → Lawful Before item_at IsItem ItemStops
unfolding item_at
item_law = then (bytes is_name Word refl) (λ name. made (item name) ItemStops (λ t o s. s) (λ t o s. s) times_law)

clause_law : (k : ClauseKind) → Lawful (λ _. Unit {0}) (clause_at k) (IsClause k) Anyhow
unfolding clause_at
clause_law kind.Price = then (keyword (codes "PRICE")) (λ _. made clause.Price Anyhow (λ a o s. tt) (λ a o s. tt) (bytes is_number Number refl))
clause_law kind.Note = then (keyword (codes "NOTE")) (λ _. made clause.Note Anyhow (λ a o s. tt) (λ a o s. tt) (bytes is_string String refl))
clause_law kind.Due = then (keyword (codes "DUE")) (λ _. made clause.Due Anyhow (λ a o s. tt) (λ a o s. tt) (bytes is_number Number refl))

-- the keywords are apart
places : (k : ClauseKind) → StandsApart grammar.keyword k kinds
unfolding same_letters
places kind.Price = inl refl
places kind.Note = inr (refl, inl refl)
places kind.Due = inr (refl, inr (refl, inl refl))

clause_numbered : (k : ClauseKind) (a : Clause) (own : List Token) → IsClause k a own → number a ≡ kind_number k
clause_numbered kind.Price a own h = ap number h.behind.is
clause_numbered kind.Note a own h = ap number h.behind.is
clause_numbered kind.Due a own h = ap number h.behind.is

clauses_law : {Before : Option Token → Type 0}
    → Lawful Before (repeat next_clause []) AreClauses (BeginsNone (kind_by grammar.keyword kinds))
unfolding next_clause
clauses_law =
    in_any_order (kind.Price ∷ []) (choice_placed grammar.keyword kinds) clause_law
    (choice_headed grammar.keyword kinds grammar.IsValue places) clause_numbered

-- the next clause, by the kind in hand
pub next_clause_is : (before : List Clause) (ts : List Token)
    → next_clause before ts ≡ once_of clause_at kind_number number wanted before ts (clause_ahead ts)
unfolding next_clause
next_clause_is = next_chosen grammar.keyword kinds clause_at kind_number number wanted

item_at_sign : (c : ℕ) (i : Item) (t : Token) → is_the_sign c t ≡ true → ItemStops i (Some t)
item_at_sign c i t e = optional_at_sign c (codes "TIMES") i.times t e

pub order_law : Lawful (λ _. Unit {0}) order_at IsOrder OrderStops
unfolding order_at same_letters
order_law =
    then (keyword (codes "ORDER")) (λ _.
    then (bytes is_name Word refl) (λ name.
    then (sign 40) (λ _.
    then_after (separated 44 item_law (λ i t e. item_at_sign 44 i t e)) (λ items.
    then (sign 41) (λ _.
    made (order name items) OrderStops (λ a o s. s) (λ a o s. s) clauses_law))
    (λ items b ts rest h s. list_at_sign 44 41 ItemStops refl (item_at_sign 41) (λ _. Made (order name items) AreClauses) items b ts rest h))))
