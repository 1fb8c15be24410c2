-- The words that a child is started with.
use Rattle.std.specs.Prelude.{◌≡◌, ◌≢◌, ◌<◌, ◌⊎◌, ℕ, slice_index_or, List, [], ◌∷◌, ◌++◌, length}
use Rattle.std.specs.Prelude.{◌-◌, nat_lt, if◌then◌else◌, codes, decimal}
use Rattle.std.specs.List.{All, filter, slice_split}
use Rattle.dict_value.specs.Letters.{is_blank_byte}
use Rattle.dict_schema.specs.declared.definition.SourceOf.{SourceOf}
use Rattle.dict_schema.specs.declared.definition.Update.{Update}
use Rattle.dict_schema.specs.declared.definition.Update.TheVariants.{Field}
use Rattle.child_io.specs.declared.words.Since.{Since}
use Rattle.child_io.specs.declared.words.Since.TheVariants.{From}

-- a text cut at its blanks, without the empty parts
abbrev pub words_in : List ℕ → List (List ℕ)
words_in text = filter (λ part. nat_lt 0 (length part)) (slice_split is_blank_byte text)

-- the path of a program of the folder's `user_scripts`
abbrev pub program_in : List ℕ → List ℕ → List ℕ
program_in folder program = folder ++ codes "/user_scripts/" ++ program

-- the first word is such a program; no words stay none
abbrev pub in_folder : List ℕ → List (List ℕ) → List (List ℕ)
in_folder folder [] = []
in_folder folder (program ∷ arguments) = program_in folder program ∷ arguments

-- a command given to the shell
abbrev pub shell_words : List ℕ → List (List ℕ)
shell_words command = codes "/bin/sh" ∷ codes "-c" ∷ command ∷ []

-- the words of a source: the command given to the shell, or its own words
abbrev pub source_words : SourceOf → List ℕ → List (List ℕ)
source_words s folder =
    if s.direct then in_folder folder (words_in s.command) else shell_words s.command

-- the same with a name and a number behind the command, and a space before each: these are two further words where the
-- command's own words are run
abbrev pub asking_words : SourceOf → List ℕ → List ℕ → ℕ → List (List ℕ)
asking_words s folder name number =
    if s.direct
    then in_folder folder (words_in s.command) ++ name ∷ decimal number ∷ []
    else shell_words (s.command ++ 32 ∷ (name ++ 32 ∷ decimal number))

-- The words to ask a source for its rows since then: with an update field the moment less the lag, at least 0, stands
-- behind the field's name.
abbrev pub words_since : SourceOf → List ℕ → Update → Since → List (List ℕ)
words_since s folder (Field name lag) (From moment) = asking_words s folder name (moment - lag)
words_since s folder _ since = source_words s folder

-- a slash stands at that place, and none behind it
abbrev pub IsLastSlash : List ℕ → ℕ → Type 0
IsLastSlash path i =
    (i < length path) × (slice_index_or path i 0 ≡ 47)
    × ((k : ℕ) → i < k → k < length path → slice_index_or path k 0 ≢ 47)

-- the part of a path before its last slash (47), or a point where there is none
abbrev pub IsFolder : List ℕ → List ℕ → Type 0
IsFolder path folder =
    ((name : List ℕ) × (path ≡ folder ++ 47 ∷ name) × All (λ b. b ≢ 47) name)
    ⊎ (All (λ b. b ≢ 47) path × (folder ≡ codes "."))
