-- A definitions file: its statements, the items that they make, and its first fault.
use Rattle.std.specs.Prelude.{◌≡◌, ◌⊎◌, ℕ, Bool, true, false, List, [], ◌∷◌, ◌++◌, All, Result, Ok, Err}
use Rattle.dict_schema.specs.declared.definition.Item.{Item}
use Rattle.dict_schema.specs.Sound.{IsSoundType}
use Rattle.ddl_tokens.specs.declared.fault.SyntaxFault.{SyntaxFault}
use Rattle.ddl_tokens.specs.Tokens.{Token}
use Rattle.ddl_tokens.specs.Laws.{Begins, Starts, Stopping, first}
use Rattle.ddl_tokens.specs.Verdicts.{Verdict, stands, falls, verdict_map, IsLeastOrFalls, VerdictStops}
use Rattle.ddl_text.specs.declared.fault.DdlFault.{DdlFault}
use Rattle.ddl_text.specs.declared.fault.DdlRefusal.{DdlRefusal}
use Rattle.ddl_text.specs.declared.fault.DdlRefusal.TheVariants as refusal
use Rattle.ddl_text.specs.declared.fault.FileFault.{FileFault}
use Rattle.ddl_text.specs.declared.fault.FileFault.TheVariants as file
use Rattle.ddl_text.specs.declared.statement.Statement.{Statement}
use Rattle.ddl_text.specs.declared.statement.Written.{Written}
use Rattle.ddl_text.specs.declared.statement.Written.TheVariants as written
use Rattle.ddl_text.specs.Faults.{of_syntax}
use Rattle.ddl_text.specs.Grammar.{IsStatement, StatementStops, is_at_end}
use Rattle.ddl_text.specs.Items.{IsRefused, IsTaken, item_of}
use Rattle.ddl_text.specs.Reading.{statement_at}

-- ---- statements

-- one that stands and has a semicolon
abbrev pub IsEnded : Statement → List Token → Type 0
IsEnded statement tokens = (statement.ended ≡ true) × IsStatement (stands statement) tokens

-- statements that stand, each with a semicolon
pub data AreEnded : List Statement → List Token → Type 0 where
  none : AreEnded [] []
  more : {statement : Statement} {others : List Statement} {own rest tokens : List Token} → tokens ≡ own ++ rest
      → IsEnded statement own → AreEnded others rest → AreEnded (statement ∷ others) tokens

-- { statement ; } [ statement ]: the last may lack its semicolon; one that falls is the last
pub data IsFile : Verdict (List Statement) → List Token → Type 0 where
  empty : IsFile (stands []) []
  last : {statement : Statement} {own : List Token} → statement.ended ≡ false → IsStatement (stands statement) own
      → IsFile (stands (statement ∷ [])) own
  fallen : {e : SyntaxFault} {own : List Token} → IsStatement (falls e) own → IsFile (falls e) own
  more : {statement : Statement} {others all : Verdict (List Statement)} {own rest tokens : List Token}
      → tokens ≡ own ++ rest → IsEnded statement own → IsFile others rest
      → all ≡ verdict_map (λ (behind : List Statement). statement ∷ behind) others → IsFile all tokens

-- it goes up to the text's end
abbrev pub IsAtEnd : Stopping (List Statement)
IsAtEnd statements next = is_at_end next ≡ true

-- ---- the items of statements

-- each statement's item stands behind those before it, and these are all
unfoldable pub AreItemsFrom : List Item → List Statement → List Item → Type 0
AreItemsFrom before [] all = before ≡ all
AreItemsFrom before (statement ∷ others) all =
    IsTaken before statement × AreItemsFrom (before ++ item_of statement ∷ []) others all

abbrev pub AreItems : List Statement → List Item → Type 0
AreItems statements items = AreItemsFrom [] statements items

-- the tokens are a file whose statements make these items
pub record IsDefined (tokens : List Token) (items : List Item) : Type 0 where
  pub statements : List Statement
  pub text : Starts IsFile (VerdictStops IsAtEnd) tokens (stands statements)
  pub made : AreItems statements items

-- where the reading of a file has come: whole statements lie behind it, and these items are theirs
pub record FileSoFar (all : List Token) (items : List Item) (ahead : List Token) : Type 0 where
  pub statements : List Statement
  pub front : List Token
  pub parts : all ≡ front ++ ahead
  pub before : AreEnded statements front
  pub made : AreItems statements items

-- ---- faults

-- behind these items a statement has to begin, and has no reading, or it has one and falls
abbrev pub FallsHere : List Item → List Token → DdlFault → Type 0
FallsHere before tokens told =
    (is_at_end (first tokens) ≡ false)
    × (((e : SyntaxFault) × (statement_at tokens ≡ Err e) × (told ≡ of_syntax e))
    ⊎ ((statement : Statement) × (rest : List Token)
    × Begins IsStatement (VerdictStops StatementStops) tokens (stands statement) rest
    × IsRefused before statement told))

-- whole statements that stand, and behind them one that doesn't
abbrev pub FallsFor : List Token → DdlFault → Type 0
FallsFor tokens told =
    (items : List Item) × (ahead : List Token) × FileSoFar tokens items ahead × FallsHere items ahead told

-- A fault of the grammar is the first one: it has the least place where a token can't stand in a file, or a statement
-- of the file falls for it. Any other fault is that of a statement that has a reading.
abbrev pub IsLeastOfFile : List Token → DdlFault → Type 0
IsLeastOfFile tokens told = (e : SyntaxFault) → told ≡ of_syntax e → IsLeastOrFalls IsFile IsAtEnd tokens e

-- ---- what calls answer

-- this holds of the line and the fault that were told, if any were
abbrev pub IfRefused : {X : Type 0} → Result X DdlRefusal → (ℕ → DdlFault → Type 0) → Type 0
IfRefused (Ok x) P = Unit {0}
IfRefused (Err refusal.NoMemory) P = Unit {0}
IfRefused (Err (refusal.Refused line told)) P = P line told

abbrev pub IfFault : {X : Type 0} → Result X FileFault → (DdlFault → Type 0) → Type 0
IfFault (Ok x) P = Unit {0}
IfFault (Err file.NoMemory) P = Unit {0}
IfFault (Err (file.Fault told)) P = P told

-- the types of a statement can be
abbrev pub HaveSoundTypes : Written → Type 0
HaveSoundTypes (written.Dictionary text) = All (λ column. IsSoundType column.ty) text.columns
HaveSoundTypes (written.Function text) =
    All (λ argument. IsSoundType argument.ty) text.arguments × IsSoundType text.returns

abbrev pub HasSoundTypes : Statement → Type 0
HasSoundTypes statement = HaveSoundTypes statement.written

-- what a step over a file's next statement leaves: nothing where the text ends, else the statement's item more
abbrev pub GoesOn : List Item → List Token → List Item → List Token → Bool → Type 0
GoesOn before tokens items rest follows =
    ((is_at_end (first tokens) ≡ true) × (follows ≡ false) × (items ≡ before) × (rest ≡ tokens))
    ⊎ ((statement : Statement) × Begins IsStatement (VerdictStops StatementStops) tokens (stands statement) rest
    × (follows ≡ statement.ended) × IsTaken before statement × (items ≡ before ++ item_of statement ∷ []))

-- the whole of a file is read: statements with their semicolons, and then the end, or the last statement without one
abbrev pub IsReadWhole : List Token → List Item → Type 0
IsReadWhole all items =
    (before : List Item) × (ahead : List Token) × (rest : List Token) × FileSoFar all before ahead
    × GoesOn before ahead items rest false
