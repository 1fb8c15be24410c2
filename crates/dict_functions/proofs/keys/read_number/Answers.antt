use Rattle.dict_functions.proofs.NumberedKeys.{digits-read}
use Rattle.dict_functions.proofs.keys.read_number.Goals as goal

pub returns-in-Some : goal.returns-in-Some
returns-in-Some c =
    let digits = rw c.as_slice.ensures at c.in-Some.ensures in
    (c.in-Text.text, c.in-Text.is, digits-read c.in-Text.text c.in-Some.number digits.0 digits.1)
