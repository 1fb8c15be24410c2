use Rattle.std.proofs.Common.{◌≤◌, ℕ, List, length, arith, subst, sym}
use Rattle.std.specs.Prelude.{All}
use Rattle.std.proofs.lemmas.List.Elements.{All-weaker}
use Rattle.wire_text.specs.Requests.{IsRequest}
use Rattle.dict_functions.proofs.tests.making.asked_of.Goals as goal

pub read_request-requires-clause-first : goal.read_request-requires-clause-first
read_request-requires-clause-first c =
    subst (λ (line : List ℕ). length line ≤ 4294967295) (sym c.as_slice-line.ensures) (omega (arith, c.in_ok-first.ensures.1))

pub read_request-requires-clause-more : goal.read_request-requires-clause-more
read_request-requires-clause-more c =
    subst (All (λ (key : List ℕ). length key ≤ 4294967295)) (sym c.as_slice-keys.ensures)
    (All-weaker (λ (key : List ℕ). length key ≤ 65536) (λ (key : List ℕ). length key ≤ 4294967295) (λ key few. omega (arith, few)) _ c.in_ok-more.ensures)

pub returns-in-Some : goal.returns-in-Some
returns-in-Some c = record {
  first = c.as_slice-line.result.now;
  more = c.as_slice-keys.result.now;
  reads = subst (IsRequest c.as_slice-line.result.now c.as_slice-keys.result.now) c.in-Some.ensures c.in-Ok.ensures.exact;
  few = omega arith;
}
