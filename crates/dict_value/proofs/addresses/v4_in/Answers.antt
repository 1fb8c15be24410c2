-- The address that is written is the one that is read, and none is read where none is written.
use Rattle.std.proofs.Common.{sym, ◌∙◌, ap, Some}
use Rattle.std.specs.Net.Addr.{ipv4_bits}
use Rattle.dict_value.proofs.WrittenAddresses.{v4_read, v4_unread}
use Rattle.dict_value.proofs.addresses.v4_in.Goals as goal

pub returns-in-Ok : goal.returns-in-Ok
unfolding ipv4_bits
returns-in-Ok c = sym (v4_read c.args.text.now _ c.in-Ok.ensures ∙ ap Some (sym c.to_bits.ensures))

pub returns-in-Err : goal.returns-in-Err
returns-in-Err c = sym (v4_unread c.args.text.now (λ octets written. c.in-Err.ensures (record { octets = octets }) written))
