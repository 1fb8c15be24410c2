-- Keys that are one number.
use Rattle.std.proofs.Common.{◌≡◌, ◌<◌, ◌^◌, ◌∙◌, ◌∷◌, [], ℕ, List, Some, Ok, true, length, append-nil, ap, refl, sym, lt-ltb}
use Rattle.std.proofs.lemmas.Str.Parse.{numerals_by_value, tells_all_ascii_digits}
use Rattle.std.specs.Str.{all_ascii_digits}
use Rattle.std.specs.Str.Parse.{digits_value, without_leading_plus}
use Rattle.dict_schema.specs.declared.definition.Definition.{Definition}
use Rattle.dict_value.proofs.WrittenNumbers.{digits_are_numeral, no_plus}
use Rattle.dict_value.specs.Digits.{IsDigits}
use Rattle.dict_value.specs.Numbers.{number_in, unsigned_in}
use Rattle.dict_value.specs.Values.{text_reading}
use Rattle.dict_value.specs.declared.value.ColType.TheVariants.{UInt64}
use Rattle.dict_value.specs.declared.value.Field.{Field}
use Rattle.dict_value.specs.declared.value.Value.TheVariants.{U}
use Rattle.dict_version.specs.declared.key.Key.{Key}
use Rattle.dict_version.specs.declared.key.Key.TheVariants as key
use Rattle.dict_version.specs.declared.lookup.LookupBy.{LookupBy}
use Rattle.dict_version.specs.declared.lookup.LookupBy.TheVariants as by
use Rattle.dict_functions.specs.Keys.{ReadsKeyBy, ReadsNumbers}
use Rattle.dict_functions.specs.steps.Lines.{is_by_number}

digits-in : (text : List ℕ) → IsDigits text → unsigned_in text ≡ Some (digits_value 10 text)
digits-in text d =
    let own = numerals_by_value _ tells_all_ascii_digits in
    let digits : all_ascii_digits text ≡ true = own.from text d.each in
    let plain : without_leading_plus text ≡ text =
    ap without_leading_plus (sym (append-nil text)) ∙ no_plus text [] digits d.some ∙ append-nil text in
    ap number_in plain ∙ rw (digits_are_numeral text digits d.some) refl

-- digits alone are read as the number that they write
pub digits-read : (text : List ℕ) (n : ℕ) → IsDigits text → n ≡ digits_value 10 text → text_reading UInt64 text ≡ Ok (U n)
unfolding text_reading
digits-read text n d is = rw (is, digits-in text d, lt-ltb (digits_value 10 text) (2 ^ 64) d.fits) refl

-- where a key is one number, a line that is one is a key
pub numbered-key : (wanted : LookupBy) (d : Definition) (fields : List Field) (n : ℕ) → is_by_number wanted ≡ true
    → ReadsNumbers fields (n ∷ []) → ReadsKeyBy wanted d fields (key.Simple n)
numbered-key (by.SmallNumber most) d fields n holds reads = reads
numbered-key by.Number d fields n holds reads = reads
numbered-key by.KeyList d fields n holds reads = absurd (cc)
numbered-key (by.Range strategy) d fields n holds reads = absurd (cc)
numbered-key by.Address d fields n holds reads = absurd (cc)
numbered-key by.Nothing d fields n holds reads = absurd (cc)

-- and no other line is
pub key-numbered : (wanted : LookupBy) (d : Definition) (fields : List Field) (wrote : Key) → is_by_number wanted ≡ true
    → ReadsKeyBy wanted d fields wrote → (n : ℕ) × ReadsNumbers fields (n ∷ [])
key-numbered (by.SmallNumber most) d fields (key.Simple n) holds reads = (n, reads)
key-numbered (by.SmallNumber most) d fields (key.List values) holds reads = absurd reads
key-numbered (by.SmallNumber most) d fields (key.Ranged values point) holds reads = absurd reads
key-numbered (by.SmallNumber most) d fields (key.V4 bits) holds reads = absurd reads
key-numbered (by.SmallNumber most) d fields (key.V6 bits) holds reads = absurd reads
key-numbered by.Number d fields (key.Simple n) holds reads = (n, reads)
key-numbered by.Number d fields (key.List values) holds reads = absurd reads
key-numbered by.Number d fields (key.Ranged values point) holds reads = absurd reads
key-numbered by.Number d fields (key.V4 bits) holds reads = absurd reads
key-numbered by.Number d fields (key.V6 bits) holds reads = absurd reads
key-numbered by.KeyList d fields wrote holds reads = absurd (cc)
key-numbered (by.Range strategy) d fields wrote holds reads = absurd (cc)
key-numbered by.Address d fields wrote holds reads = absurd (cc)
key-numbered by.Nothing d fields wrote holds reads = absurd (cc)
