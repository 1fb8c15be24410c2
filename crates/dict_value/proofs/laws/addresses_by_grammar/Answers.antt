-- What is written is read, and what is read is written.
use Rattle.std.proofs.Common.{◌∙◌, ap, sym, Some}
use Rattle.dict_value.proofs.WrittenAddresses.{address_read, address_written, v4_read, v4_written, v6_read, v6_written}
use Rattle.dict_value.proofs.laws.addresses_by_grammar.Goals as goal

pub returns-clause-v4 : goal.returns-clause-v4
returns-clause-v4 c = λ text n. (λ read. v4_written text n read, λ written. v4_read text written.0 written.1 ∙ ap Some (sym written.2))

pub returns-clause-v6 : goal.returns-clause-v6
returns-clause-v6 c = λ text n. (λ read. v6_written text n read, λ written. v6_read text written.0 written.1 ∙ ap Some (sym written.2))

pub returns-clause-either : goal.returns-clause-either
returns-clause-either c = λ text a. (λ read. address_written text a read, λ written. address_read text a written)
