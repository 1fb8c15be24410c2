-- A source's command, and which commands are none.
use Rattle.std.specs.Prelude.{◌≡◌, ◌⊎◌, ℕ, List, length, drop, take_while, Bool, not, IsTrue, IsUtf8, codes}
use Rattle.std.specs.Prelude.{All, Contains}
use Rattle.dict_value.specs.Letters.{is_blank_byte}

-- a text without the blanks at its front
abbrev pub after_blanks : List ℕ → List ℕ
after_blanks text = drop (length (take_while is_blank_byte text)) text

-- the bytes of a text from its first one that is no blank to the next blank
abbrev pub first_word : List ℕ → List ℕ
first_word text = take_while (λ b. not (is_blank_byte b)) (after_blanks text)

-- a word that isn't the name of a file in a folder: it has a slash, or means the folder itself or the one above
abbrev pub IsNoFileName : List ℕ → Type 0
IsNoFileName word = Contains word 47 ⊎ ((word ≡ codes ".") ⊎ (word ≡ codes ".."))

-- a command of blanks alone
abbrev pub IsBlank : List ℕ → Type 0
IsBlank command = All (λ b. IsTrue (is_blank_byte b)) command

-- a text that isn't UTF-8, is blank, or is to be run directly and whose first word can't be the name of a program
abbrev pub IsBadCommand : Bool → List ℕ → Type 0
IsBadCommand direct command =
    (IsUtf8 command → ⊥) ⊎ (IsBlank command ⊎ (IsTrue direct × IsNoFileName (first_word command)))
