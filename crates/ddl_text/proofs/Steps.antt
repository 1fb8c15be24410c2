-- What the calls over a file leave.
use Rattle.std.proofs.Common.{◌≡◌, ℕ, ◌<◌, Bool, true, false, List, [], ◌∷◌, ◌++◌, Ok, Err, refl, sym, ap, ◌∙◌, inl, inr, arith}
use Rattle.std.specs.Prelude.{nat_le}
use Rattle.std.proofs.lemmas.Bool.Decides.{nat_tests}
use Rattle.dict_schema.specs.declared.definition.Column.{Column}
use Rattle.dict_schema.specs.declared.definition.Item.{Item}
use Rattle.ddl_tokens.specs.declared.fault.ReadFault.{ReadFault}
use Rattle.ddl_tokens.specs.declared.fault.ReadFault.TheVariants as read
use Rattle.ddl_tokens.specs.Tokens.{Token}
use Rattle.ddl_tokens.specs.Reading.{◌>>=◌, Gives, Read, kind_ahead}
use Rattle.ddl_tokens.specs.Laws.{first}
use Rattle.ddl_tokens.proofs.Verdicts.{judged_found}
use Rattle.ddl_columns.specs.Reading.{key_at}
use Rattle.ddl_clauses.specs.declared.parts.DictionaryParts.{DictionaryParts}
use Rattle.ddl_clauses.specs.Reading.{dictionary_clauses_at}
use Rattle.ddl_text.specs.declared.fault.FileFault.{FileFault}
use Rattle.ddl_text.specs.declared.fault.FileFault.TheVariants as file
use Rattle.ddl_text.specs.declared.statement.Statement.{Statement}
use Rattle.ddl_text.specs.declared.statement.WrittenName.{WrittenName}
use Rattle.ddl_text.specs.Statements.{dictionary}
use Rattle.ddl_text.specs.Faults.{of_reading}
use Rattle.ddl_text.specs.Grammar.{is_at_end, is_last_token}
use Rattle.ddl_text.specs.Items.{IsFaultOf, IsRefused, IsTaken, is_full, item_of, sizes_of}
use Rattle.ddl_text.specs.Files.{FallsHere, GoesOn, IfFault}
use Rattle.ddl_text.specs.Reading.{behind_columns_at, ending_at, statement_at}
use Rattle.ddl_text.proofs.Ahead.{end_ahead}
use Rattle.ddl_text.proofs.StatementLaws.{statement_law}

-- ---- the end of a statement fails

pub ending_fails : (place : ℕ) (name : WrittenName) (columns : List Column) (ts : List Token) (keys : List (List ℕ)) (us : List Token) (parts : DictionaryParts) (vs rest : List Token) (e : ReadFault)
    → key_at ts ≡ Ok (keys, us) → dictionary_clauses_at us ≡ Ok (parts, vs) → Gives {X = Bool} (λ ended. ended) (Err e) rest (ending_at vs) → Gives {X = Statement} (λ statement. statement) (Err e) rest (behind_columns_at place name columns ts)
unfolding behind_columns_at
ending_fails place name columns ts keys us parts vs rest (read.Syntax e) k d h = λ n.
    ap (λ (r : Read (List (List ℕ))). r >>= λ keys. dictionary_clauses_at keys.1 >>= λ parts. ending_at parts.1 >>= λ ended. Ok (dictionary place name columns keys.0 parts.0 ended.0, ended.1)) k
    ∙ ap (λ (r : Read DictionaryParts). r >>= λ parts. ending_at parts.1 >>= λ ended. Ok (dictionary place name columns keys parts.0 ended.0, ended.1)) d
    ∙ ap (λ (r : Read Bool). r >>= λ ended. Ok (dictionary place name columns keys parts ended.0, ended.1)) (h (λ m. absurd cc))
ending_fails place name columns ts keys us parts vs rest read.NoMemory k d h = λ n. absurd (n refl)

-- ---- an item that is made and judged

pub full : (most count counted : ℕ) → most ≡ 128 → counted ≡ count → counted < most → nat_le 128 count ≡ false
full most count counted m e lt = grind (arith, nat_tests)

pub refused_made : (before : List Item) (statement : Statement) (e : FileFault) → is_full before statement ≡ false → IfFault {X = Item} (Err e) (IsFaultOf (item_of statement) (sizes_of statement.written) statement.place)
    → IfFault {X = Item} (Err e) (IsRefused before statement)
refused_made before statement (file.Fault told) few h = inr (few, inl h)
refused_made before statement file.NoMemory few h = tt

-- ---- the next item

pub ends_here : (before : List Item) (ts : List Token) (b : Bool) → b ≡ is_last_token (kind_ahead ts) → b ≡ true → GoesOn before ts before ts false
ends_here before ts b e h = inl (sym (end_ahead ts) ∙ sym e ∙ h, refl, refl, refl)

pub begins_here : (ts : List Token) (b : Bool) → b ≡ is_last_token (kind_ahead ts) → b ≡ false → is_at_end (first ts) ≡ false
begins_here ts b e h = sym (end_ahead ts) ∙ sym e ∙ h

pub statement_fails : (X : Type 0) (before : List Item) (ts rest : List Token) (e : ReadFault) → is_at_end (first ts) ≡ false → Gives {X = Statement} (λ statement. statement) (Err e) rest (statement_at ts) → IfFault {X = X} (Err (of_reading e)) (FallsHere before ts)
statement_fails X before ts rest (read.Syntax e) begun h = (begun, inl (e, h (λ n. absurd cc), refl))
statement_fails X before ts rest read.NoMemory begun h = tt

pub item_fails : (X : Type 0) (before : List Item) (ts rest : List Token) (statement : Statement) (e : FileFault) → is_at_end (first ts) ≡ false → Gives {X = Statement} (λ statement. statement) (Ok statement) rest (statement_at ts)
    → IfFault {X = Item} (Err e) (IsRefused before statement) → IfFault {X = X} (Err e) (FallsHere before ts)
item_fails X before ts rest statement (file.Fault told) begun h r = (begun, inr (statement, rest, judged_found statement_law ts rest (Ok statement) h, r))
item_fails X before ts rest statement file.NoMemory begun h r = tt

pub item_follows : (before items : List Item) (ts rest : List Token) (statement : Statement) (item : Item) → Gives {X = Statement} (λ statement. statement) (Ok statement) rest (statement_at ts)
    → item ≡ item_of statement → IsTaken before statement → items ≡ before ++ item ∷ [] → GoesOn before ts items rest statement.ended
item_follows before items ts rest statement item h made taken new =
    inr (statement, judged_found statement_law ts rest (Ok statement) h, refl, taken, new ∙ ap (λ (x : Item). before ++ x ∷ []) made)
