-- How an order is read: each part as the laws put it together.
use Rattle.std.specs.Prelude.{ℕ, List, [], codes, Option, Some, None, Ok, if◌then◌else◌}
use Rattle.ddl_tokens.specs.Tokens.{Token}
use Rattle.ddl_tokens.specs.Reading.{◌>>=◌, Read, passes, is_keyword, is_name, is_number, is_string, keyword_at}
use Rattle.ddl_tokens.specs.Reading.{sign_at, bytes_at}
use Rattle.ddl_tokens.specs.Lists.{Step, chosen_ahead, kind_by, next_once, repeat, separated_at}
use Rattle.ddl_tokens_example.specs.declared.order.Item.{Item}
use Rattle.ddl_tokens_example.specs.declared.order.Clause.{Clause}
use Rattle.ddl_tokens_example.specs.declared.order.Clause.TheVariants as clause
use Rattle.ddl_tokens_example.specs.declared.order.ClauseKind.{ClauseKind}
use Rattle.ddl_tokens_example.specs.declared.order.ClauseKind.TheVariants as kind
use Rattle.ddl_tokens_example.specs.declared.order.Order.{Order}
use Rattle.ddl_tokens_example.specs.Grammar.{item, order, keyword, kinds, kind_number, number, wanted}

unfoldable pub times_at : List Token → Read (Option (List ℕ))
times_at ts =
    if passes (is_keyword (codes "TIMES")) ts
    then (keyword_at (codes "TIMES") ts >>= λ k. bytes_at is_number k.1) >>= (λ n. Ok (Some n.0, n.1))
    else Ok (None, ts)

unfoldable pub item_at : List Token → Read Item
item_at ts = do
  name ← bytes_at is_name ts
  times ← times_at name.1
  Ok (item name.0 times.0, times.1)

unfoldable pub clause_at : ClauseKind → List Token → Read Clause
clause_at kind.Price ts = do
  word ← keyword_at (codes "PRICE") ts
  value ← bytes_at is_number word.1
  Ok (clause.Price value.0, value.1)
clause_at kind.Note ts = do
  word ← keyword_at (codes "NOTE") ts
  value ← bytes_at is_string word.1
  Ok (clause.Note value.0, value.1)
clause_at kind.Due ts = do
  word ← keyword_at (codes "DUE") ts
  value ← bytes_at is_number word.1
  Ok (clause.Due value.0, value.1)

-- the kind of the clause that the token in hand begins
abbrev pub clause_ahead : List Token → Option ClauseKind
clause_ahead = chosen_ahead keyword kinds

unfoldable pub next_clause : Step (List Clause)
next_clause before ts = next_once (kind_by keyword kinds) clause_at kind_number number wanted before ts

unfoldable pub order_at : List Token → Read Order
order_at ts = do
  word ← keyword_at (codes "ORDER") ts
  name ← bytes_at is_name word.1
  begin ← sign_at 40 name.1
  items ← separated_at 44 item_at begin.1
  end ← sign_at 41 items.1
  clauses ← repeat next_clause [] end.1
  Ok (order name.0 items.0 clauses.0, clauses.1)
