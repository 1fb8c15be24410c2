-- What the text of a definitions file defines.
use Rattle.std.specs.Prelude.{◌≡◌, ℕ, List}
use Rattle.dict_schema.specs.declared.definition.Item.{Item}
use Rattle.ddl_tokens.specs.Lines.{line_of}
use Rattle.ddl_tokens.specs.Tokens.{Token, AreTokens}
use Rattle.ddl_text.specs.declared.fault.DdlFault.{DdlFault}
use Rattle.ddl_text.specs.Faults.{place_of_fault}
use Rattle.ddl_text.specs.Files.{FallsFor, IsDefined, IsLeastOfFile}

-- this holds of the tokens that a text has
abbrev pub OfTokens : List ℕ → (List Token → Type 0) → Type 0
OfTokens text P = (tokens : List Token) → AreTokens text tokens → P tokens

-- the text is read as these items
abbrev pub TextDefines : List ℕ → List Item → Type 0
TextDefines text items = OfTokens text (λ tokens. IsDefined tokens items)

-- the text has no reading, and this is its first fault, in this line
pub record IsFaulty (text : List ℕ) (line : ℕ) (fault : DdlFault) : Type 0 where
  pub none : (items : List Item) → OfTokens text (λ tokens. IsDefined tokens items → ⊥)
  pub falls : OfTokens text (λ tokens. FallsFor tokens fault)
  pub least : OfTokens text (λ tokens. IsLeastOfFile tokens fault)
  pub lined : line ≡ line_of text (place_of_fault fault)
