-- The address that is written is the one that is read, and none is read where none is written.
use Rattle.std.proofs.Common.{sym, ◌∙◌, ap, Some}
use Rattle.std.specs.Net.Addr.{ipv6_bits}
use Rattle.dict_value.proofs.WrittenAddresses.{v6_read, v6_unread}
use Rattle.dict_value.proofs.addresses.v6_in.Goals as goal

pub returns-in-Ok : goal.returns-in-Ok
unfolding ipv6_bits
returns-in-Ok c = sym (v6_read c.args.text.now _ c.in-Ok.ensures ∙ ap Some (sym c.to_bits.ensures))

pub returns-in-Err : goal.returns-in-Err
returns-in-Err c = sym (v6_unread c.args.text.now (λ groups written. c.in-Err.ensures (record { segments = groups }) written))
