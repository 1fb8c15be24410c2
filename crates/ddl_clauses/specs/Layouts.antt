-- The layouts by their names.
use Rattle.std.specs.Prelude.{ℕ, List, [], ◌∷◌, codes, Option, Some, None, if◌then◌else◌}
use Rattle.ddl_tokens.specs.declared.letters.LetterCase.TheVariants.{Any}
use Rattle.ddl_tokens.specs.Letters.{same_letters}
use Rattle.ddl_clauses.specs.declared.layouts.LayoutName.{LayoutName}
use Rattle.ddl_clauses.specs.declared.layouts.LayoutName.TheVariants as name
use Rattle.ddl_clauses.specs.declared.settings.Section.{Section}
use Rattle.ddl_clauses.specs.declared.settings.Section.TheVariants as section

abbrev pub all_layouts : List LayoutName
all_layouts =
    name.Flat ∷ name.Hashed ∷ name.SparseHashed ∷ name.HashedArray ∷ name.ComplexHashed ∷ name.ComplexSparseHashed
    ∷ name.ComplexHashedArray ∷ name.RangeHashed ∷ name.ComplexRangeHashed ∷ name.IpTrie ∷ name.Cache
    ∷ name.ComplexCache ∷ name.Direct ∷ name.ComplexDirect ∷ []

abbrev pub layout_text : LayoutName → List ℕ
layout_text name.Flat = codes "FLAT"
layout_text name.Hashed = codes "HASHED"
layout_text name.SparseHashed = codes "SPARSE_HASHED"
layout_text name.HashedArray = codes "HASHED_ARRAY"
layout_text name.ComplexHashed = codes "COMPLEX_KEY_HASHED"
layout_text name.ComplexSparseHashed = codes "COMPLEX_KEY_SPARSE_HASHED"
layout_text name.ComplexHashedArray = codes "COMPLEX_KEY_HASHED_ARRAY"
layout_text name.RangeHashed = codes "RANGE_HASHED"
layout_text name.ComplexRangeHashed = codes "COMPLEX_KEY_RANGE_HASHED"
layout_text name.IpTrie = codes "IP_TRIE"
layout_text name.Cache = codes "CACHE"
layout_text name.ComplexCache = codes "COMPLEX_KEY_CACHE"
layout_text name.Direct = codes "DIRECT"
layout_text name.ComplexDirect = codes "COMPLEX_KEY_DIRECT"

-- the layout, of these, that bytes name in any letter case
unfoldable pub layout_named : List LayoutName → List ℕ → Option LayoutName
layout_named [] bytes = None
layout_named (name ∷ others) bytes =
    if same_letters Any bytes (layout_text name) then Some name else layout_named others bytes

-- the settings that a layout takes
abbrev pub layout_section : LayoutName → Section
layout_section name.Flat = section.Flat
layout_section name.Hashed = section.Hashed
layout_section name.SparseHashed = section.Hashed
layout_section name.HashedArray = section.Hashed
layout_section name.ComplexHashed = section.Hashed
layout_section name.ComplexSparseHashed = section.Hashed
layout_section name.ComplexHashedArray = section.Hashed
layout_section name.RangeHashed = section.Range
layout_section name.ComplexRangeHashed = section.Range
layout_section name.IpTrie = section.Bare
layout_section name.Cache = section.Cache
layout_section name.ComplexCache = section.Cache
layout_section name.Direct = section.Bare
layout_section name.ComplexDirect = section.Bare
