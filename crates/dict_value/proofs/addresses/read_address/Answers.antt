-- What is written is read, and what is read is written.
use Rattle.std.proofs.Common.{sym, ◌∙◌}
use Rattle.dict_value.proofs.WrittenAddresses.{address_written, address_read}
use Rattle.dict_value.proofs.addresses.read_address.Goals as goal

pub returns-in-Some-clause-written : goal.returns-in-Some-clause-written
returns-in-Some-clause-written c = address_written c.args.text.now _ (sym c.address_in.ensures ∙ c.in-Some.is)

pub returns-in-None-clause-unwritten : goal.returns-in-None-clause-unwritten
returns-in-None-clause-unwritten c = λ a written.
    let read = address_read c.args.text.now a written in absurd (cc (c.address_in.ensures, c.in-None.is, read))
