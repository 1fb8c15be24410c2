-- The grammar of statements, in the words of the laws. The signs are ( . ; by their codes 40, 46 and 59.
use Rattle.std.specs.Prelude.{◌≡◌, ℕ, Bool, true, false, List, codes, Option, Some, None}
use Rattle.ddl_tokens.specs.declared.token.TokenKind.{TokenKind}
use Rattle.ddl_tokens.specs.declared.token.TokenKind.TheVariants.{End}
use Rattle.ddl_tokens.specs.Tokens.{Token}
use Rattle.ddl_tokens.specs.Reading.{is_keyword, is_name}
use Rattle.ddl_tokens.specs.Laws.{Either, Grammar, IsBytes, IsKeyword, IsNothing, IsOne, IsSign, Made, Optional}
use Rattle.ddl_tokens.specs.Laws.{Stopping, Then, judged}
use Rattle.ddl_tokens.specs.Verdicts.{Verdict, Standing, ThenVerdict}
use Rattle.ddl_columns.specs.Grammar.{AreArguments, AreColumns, IsKey, IsType}
use Rattle.ddl_clauses.specs.Grammar.{AreDictionaryClauses, IsWrittenFunction}
use Rattle.ddl_clauses.specs.Parts.{dictionary_parts, function_parts}
use Rattle.ddl_text.specs.declared.statement.Statement.{Statement}
use Rattle.ddl_text.specs.declared.statement.WrittenName.{WrittenName}
use Rattle.ddl_text.specs.Statements.{dictionary, function, pointed}

-- ---- names

-- . word
abbrev pub IsBehindPoint : Grammar (List ℕ)
IsBehindPoint = Then (IsSign 46) (λ _. IsBytes is_name)

-- word [ . word ]
abbrev pub IsName : Grammar WrittenName
IsName = Then (IsBytes is_name) (λ first. Made (pointed first) (Optional IsBehindPoint))

-- IF NOT EXISTS name
abbrev pub IsNewName : Grammar WrittenName
IsNewName =
    Then (IsKeyword (codes "IF")) (λ _. Then (IsKeyword (codes "NOT")) (λ _.
    Then (IsKeyword (codes "EXISTS")) (λ _. IsName)))

-- [ IF NOT EXISTS ] name; IF may be a name as well
abbrev pub IsNamed : Grammar WrittenName
IsNamed = Either IsNewName IsName

-- ---- the end of a statement

abbrev pub is_last_token : TokenKind → Bool
is_last_token End = true
is_last_token _ = false

-- a semicolon, or nothing
abbrev pub IsItemEnd : Grammar Bool
IsItemEnd = Either (Made (λ _. true) (IsSign 59)) (IsNothing false)

-- the text ends before this token
abbrev pub is_at_end : Option Token → Bool
is_at_end None = true
is_at_end (Some t) = is_last_token t.kind

-- where no semicolon stands, the text ends
abbrev pub EndsItems : Bool → Option Token → Type 0
EndsItems true next = Unit {0}
EndsItems false next = is_at_end next ≡ true

-- ---- statements, each with its end

-- a keyword, by its place
abbrev pub IsBegun : List ℕ → Grammar ℕ
IsBegun word = IsOne (judged (is_keyword word) (λ t. t.place))

abbrev pub IsOrReplace : Grammar (Unit {0})
IsOrReplace = Then (IsKeyword (codes "OR")) (λ _. IsKeyword (codes "REPLACE"))

-- CREATE [ OR REPLACE ] DICTIONARY name columns key clauses
abbrev pub IsDictionary : Grammar (Verdict Statement)
IsDictionary =
    Then (IsBegun (codes "CREATE")) (λ place.
    Then (Optional IsOrReplace) (λ _.
    Then (IsKeyword (codes "DICTIONARY")) (λ _.
    Then IsNamed (λ name.
    ThenVerdict AreColumns (λ columns.
    Standing (
    Then IsKey (λ keys.
    Then (Made dictionary_parts AreDictionaryClauses) (λ parts.
    Made (dictionary place name columns keys parts) IsItemEnd))))))))

-- EXECUTABLE FUNCTION word arguments RETURNS type source [ settings ]
abbrev pub IsFunction : Grammar (Verdict Statement)
IsFunction =
    Then (IsBegun (codes "EXECUTABLE")) (λ place.
    Then (IsKeyword (codes "FUNCTION")) (λ _.
    Then (IsBytes is_name) (λ name.
    ThenVerdict AreArguments (λ arguments.
    Then (IsKeyword (codes "RETURNS")) (λ _.
    ThenVerdict IsType (λ type.
    Standing (
    Then IsWrittenFunction (λ source.
    Made (function place name arguments type (function_parts source)) IsItemEnd))))))))

abbrev pub IsStatement : Grammar (Verdict Statement)
IsStatement = Either IsDictionary IsFunction

abbrev pub StatementStops : Stopping Statement
StatementStops statement next = EndsItems statement.ended next
