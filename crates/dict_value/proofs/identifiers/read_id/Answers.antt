-- A text that doesn't parse has no identifier.
use Rattle.std.proofs.Common.{refl, inl, inr}
use Rattle.uuid.specs.Text.{parsed}
use Rattle.dict_value.proofs.WrittenAddresses.{cases_of}
use Rattle.dict_value.proofs.identifiers.read_id.Goals as goal

pub returns-in-Err-clause-exact : goal.returns-in-Err-clause-exact
returns-in-Err-clause-exact c = elim (cases_of (parsed c.args.text.now)) [
  | inl none ↦ rw none refl
  | inr some ↦ absurd (cc (c.in-Err.ensures.ok.1 some))
]
