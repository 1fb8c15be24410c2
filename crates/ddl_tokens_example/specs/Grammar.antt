-- The grammar of an order, in the words of the laws.
use Rattle.std.specs.Prelude.{ℕ, List, [], ◌∷◌, codes, Option, map}
use Rattle.ddl_tokens.specs.Tokens.{Token}
use Rattle.ddl_tokens.specs.Reading.{is_keyword, is_name, is_number, is_string}
use Rattle.ddl_tokens.specs.Laws.{Anyhow, IsKeyword, IsSign, IsBytes, Then, Made, Optional, OptionalStops}
use Rattle.ddl_tokens.specs.Lists.{BeginsNone, InAnyOrder, Separated, kind_by}
use Rattle.ddl_tokens_example.specs.declared.order.Item.{Item}
use Rattle.ddl_tokens_example.specs.declared.order.Clause.{Clause}
use Rattle.ddl_tokens_example.specs.declared.order.Clause.TheVariants as clause
use Rattle.ddl_tokens_example.specs.declared.order.ClauseKind.{ClauseKind}
use Rattle.ddl_tokens_example.specs.declared.order.ClauseKind.TheVariants as kind
use Rattle.ddl_tokens_example.specs.declared.order.Order.{Order}

abbrev pub item : List ℕ → Option (List ℕ) → Item
item name times = record { name = name; times = times }

abbrev pub order : List ℕ → List Item → List Clause → Order
order name items clauses = record { name = name; items = items; clauses = clauses }

-- TIMES number
abbrev pub IsTimes : List ℕ → List Token → Type 0
IsTimes = Then (IsKeyword (codes "TIMES")) (λ _. IsBytes is_number)

-- name [ TIMES number ]
abbrev pub IsItem : Item → List Token → Type 0
IsItem = Then (IsBytes is_name) (λ name. Made (item name) (Optional IsTimes))

-- an item without TIMES isn't followed by it
abbrev pub ItemStops : Item → Option Token → Type 0
ItemStops i next = OptionalStops (is_keyword (codes "TIMES")) Anyhow i.times next

-- the keyword of each kind of clause
abbrev pub keyword : ClauseKind → List ℕ
keyword kind.Price = codes "PRICE"
keyword kind.Note = codes "NOTE"
keyword kind.Due = codes "DUE"

abbrev pub kinds : List ClauseKind
kinds = kind.Price ∷ kind.Note ∷ kind.Due ∷ []

abbrev pub IsValue : ClauseKind → Clause → List Token → Type 0
IsValue kind.Price = Made clause.Price (IsBytes is_number)
IsValue kind.Note = Made clause.Note (IsBytes is_string)
IsValue kind.Due = Made clause.Due (IsBytes is_number)

-- PRICE number, NOTE string or DUE number
abbrev pub IsClause : ClauseKind → Clause → List Token → Type 0
IsClause kind = Then (IsKeyword (keyword kind)) (λ _. IsValue kind)

abbrev pub kind_number : ClauseKind → ℕ
kind_number kind.Price = 0
kind_number kind.Note = 1
kind_number kind.Due = 2

abbrev pub number : Clause → ℕ
number (clause.Price value) = 0
number (clause.Note value) = 1
number (clause.Due value) = 2

-- PRICE must be there
abbrev pub wanted : List ℕ
wanted = map kind_number (kind.Price ∷ [])

-- in any order, each at most once
abbrev pub AreClauses : List Clause → List Token → Type 0
AreClauses = InAnyOrder kind_number number IsClause wanted

-- ORDER name "(" item { "," item } ")" { clause }
abbrev pub IsOrder : Order → List Token → Type 0
IsOrder =
    Then (IsKeyword (codes "ORDER")) (λ _.
    Then (IsBytes is_name) (λ name.
    Then (IsSign 40) (λ _.
    Then (Separated 44 IsItem) (λ items.
    Then (IsSign 41) (λ _.
    Made (order name items) AreClauses)))))

abbrev pub OrderStops : Order → Option Token → Type 0
OrderStops o next = BeginsNone (kind_by keyword kinds) o.clauses next
