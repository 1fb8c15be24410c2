-- The lengths of the blanks at the ends of a text.
use Rattle.std.proofs.Common.{◌≡◌, ℕ, List, length, reverse}
use Rattle.std.specs.List.{prefix_len, suffix_len, take_while}
use Rattle.std.proofs.lemmas.List.Folds.{length-prefix_len}
use Rattle.std.proofs.lemmas.List.Sums.{prefix_len-le-length, suffix_len-le-length}
use Rattle.dict_value.specs.Letters.{is_blank_byte}

pub blanks_before : (text : List ℕ) → length (take_while is_blank_byte text) ≡ prefix_len is_blank_byte text
blanks_before text = length-prefix_len is_blank_byte text

pub blanks_behind : (text : List ℕ) → length (take_while is_blank_byte (reverse text)) ≡ suffix_len is_blank_byte text
blanks_behind text = length-prefix_len is_blank_byte (reverse text)

pub ruleset blank_lengths = (blanks_before, blanks_behind, prefix_len-le-length, suffix_len-le-length)
