-- A mapped address has its own form, and every other one its groups.
use Rattle.std.proofs.Common.{◌≡◌, false, [], ◌∷◌, ◌++◌, ◌∙◌, ap, length, subst, take, bytes_eq, refl, arith}
use Rattle.std.proofs.lemmas.List.{append_assoc}
use Rattle.std.proofs.lemmas.Result.{on_err_weaker, on_ok_weaker}
use Rattle.std.proofs.lemmas.Slice.Eq.{bytes_eq-Decides}
use Rattle.std.specs.Net.Text.{ipv4_text, ipv6_text}
use Rattle.dict_value.proofs.Fronts.{front_stays}
use Rattle.dict_value.proofs.number_texts.push_v6.Goals as goal

pub returns-in_ok-extend-in-Some-clause-ok : goal.returns-in_ok-extend-in-Some-clause-ok
unfolding ipv6_text
returns-in_ok-extend-in-Some-clause-ok c =
    let mapped = (bytes_eq-Decides _ _).1 (c.in-Some.ensures.found.0 refl) in
    rw (mapped, ← c.in-Some.ensures.value)
    (on_ok_weaker c.push_v4.result (λ e. e ∙ ap (λ l. l ++ ipv4_text c.in-Some.v4.octets) c.in_ok-extend-in-Some.ensures.ok ∙ append_assoc c.args.out.now _ _) c.push_v4.ensures.ok)

pub returns-in_ok-extend-in-Some-clause-err : goal.returns-in_ok-extend-in-Some-clause-err
returns-in_ok-extend-in-Some-clause-err c =
    on_err_weaker c.push_v4.result (λ e. front_stays c.args.out.now _ c.push_v4.new.out (subst (λ l. take (length l) c.push_v4.new.out ≡ l) c.in_ok-extend-in-Some.ensures.ok e)) c.push_v4.ensures.err

pub returns-in-None-clause-ok : goal.returns-in-None-clause-ok
unfolding ipv6_text
returns-in-None-clause-ok c =
    let groups = c.args.address.now.segments in
    let other : bytes_eq (take 6 groups) (0 ∷ 0 ∷ 0 ∷ 0 ∷ 0 ∷ 0xffff ∷ []) ≡ false =
    grind (arith, bytes_eq-Decides (take 6 groups) (0 ∷ 0 ∷ 0 ∷ 0 ∷ 0 ∷ 0xffff ∷ []), c.in-None.ensures.found) in
    rw (other, ← c.segments.ensures) c.push_short_groups.ensures.ok
