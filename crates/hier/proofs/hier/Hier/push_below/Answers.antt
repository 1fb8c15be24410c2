-- The members below one, from the least on.
use Rattle.std.proofs.Common.{◌≡◌, ◌<◌, ◌+◌, ◌-◌, ℕ, List, length, get_or, inl, inr, arith, subst, sym}
use Rattle.std.proofs.lemmas.Bool.{cases_eq}
use Rattle.hier.specs.Members.{TellsNext}
use Rattle.hier.proofs.Finds.{IsSoFar, so-far-all, so-far-more, so-far-none, so-far-skip}
use Rattle.hier.proofs.Lists.{number-read}
use Rattle.hier.proofs.hier.Hier.push_below.Goals as goal

pub loop-cell-init : goal.loop-cell-init
loop-cell-init c =
    let it = c.args.self.now in
    let read = number-read it.firsts.items c.args.of c.index-cell.result.now (let n = it.sound.firsts_len in let r = c.requires in omega (arith, n, r)) c.index-cell.ensures in
    so-far-none it.ups.items c.args.of c.args.but c.args.found.now c.index-cell.result.now (subst (TellsNext it.ups.items 0 (c.args.of + 1)) read (it.sound.first c.args.of c.requires))

pub loop-cell-preserved : goal.loop-cell-preserved
loop-cell-preserved c =
    let it = c.args.self.now in
    let ups = it.ups.items in
    let so = c.loop-cell.invariant in
    let cell = c.loop-cell.cell in
    let some : 0 < cell = omega arith in
    let within = so.next.within some in
    let member : cell - 1 < length it.members.items = let w = within.1 in let n = it.sound.ups_len in omega (arith, w, n, some) in
    let read = number-read it.nexts.items (cell - 1) c.index-cell-in-loop-cell.result.now (let n = it.sound.nexts_len in omega (arith, n, member)) c.index-cell-in-loop-cell.ensures in
    let told : get_or ups (cell - 1) 0 ≡ c.args.of + 1 → TellsNext ups (cell - 1 + 1) (c.args.of + 1) c.index-cell-in-loop-cell.result.now = λ e.
    subst (λ k. TellsNext ups (cell - 1 + 1) k c.index-cell-in-loop-cell.result.now) e
    (subst (TellsNext ups (cell - 1 + 1) (get_or ups (cell - 1) 0)) read (it.sound.next (cell - 1) member (omega (arith, e)))) in
    elim (cases_eq (cell - 1) c.args.but) [
      | inl same ↦
          subst (λ b. IsSoFar ups c.args.of b c.args.found.now c.push_other.new.found c.index-cell-in-loop-cell.result.now) same
          (subst (λ (z : List ℕ). IsSoFar ups c.args.of (cell - 1) c.args.found.now z c.index-cell-in-loop-cell.result.now) (sym (c.in_ok-push_other.ensures.same same))
          (so-far-skip ups c.args.of c.args.found.now c.loop-cell.found cell some (subst (λ b. IsSoFar ups c.args.of b c.args.found.now c.loop-cell.found cell) (sym same) so) c.index-cell-in-loop-cell.result.now told))
      | inr other ↦ so-far-more ups c.args.of c.args.but c.args.found.now c.loop-cell.found c.push_other.new.found cell some other so c.index-cell-in-loop-cell.result.now (c.in_ok-push_other.ensures.other other) told
    ]

pub returns : goal.returns
returns c =
    let so = subst (λ k. IsSoFar c.args.self.now.ups.items c.args.of c.args.but c.args.found.now c.loop-cell.found k) (omega arith) c.loop-cell.invariant in
    so-far-all c.args.self.now.ups.items c.args.of c.args.but c.args.found.now c.loop-cell.found so
