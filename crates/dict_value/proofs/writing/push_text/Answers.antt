-- An address shows its bytes.
use Rattle.std.proofs.Common.{◌++◌, ap, ◌∙◌}
use Rattle.std.proofs.lemmas.Result.{on_ok_weaker}
use Rattle.std.specs.Net.Addr.{IsIpv4OfBits, IsIpv6OfBits}
use Rattle.std.specs.Net.Text.{ipv4_text, ipv6_text}
use Rattle.dict_value.specs.Values.{value_text}
use Rattle.dict_value.proofs.writing.push_text.Goals as goal

pub returns-in-V4-clause-ok : goal.returns-in-V4-clause-ok
unfolding value_text IsIpv4OfBits
returns-in-V4-clause-ok c =
    rw c.in-V4.is (on_ok_weaker c.push_v4.result (λ e. e ∙ ap (λ o. c.args.out.now ++ ipv4_text o) c.from_bits.ensures) c.push_v4.ensures.ok)

pub returns-in-V6-clause-ok : goal.returns-in-V6-clause-ok
unfolding value_text IsIpv6OfBits
returns-in-V6-clause-ok c =
    rw c.in-V6.is (on_ok_weaker c.push_v6.result (λ e. e ∙ ap (λ o. c.args.out.now ++ ipv6_text o) c.from_bits-in-V6.ensures) c.push_v6.ensures.ok)
