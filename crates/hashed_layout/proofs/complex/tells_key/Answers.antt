-- The entry that was read tells.
use Rattle.std.proofs.Common.{◌≡◌, ◌-◌, ◌∙◌, List, ap, arith, drop, refl, subst, sym}
use Rattle.std.specs.Prelude.{IsTrue, ◌↔◌, ℕ}
use Rattle.hashed_layout.specs.KeyBytes.{BeginsWithKey}
use Rattle.hashed_layout.specs.KeyTables.{number_below_tag, entry_start}
use Rattle.hashed_layout.proofs.KeyTableLemmas.{begins-within, bytes-from, entry-read, told-by}
use Rattle.hashed_layout.proofs.complex.tells_key.Goals as goal

pub returns-then-start-bytes : goal.returns-then-start-bytes
returns-then-start-bytes c =
    let entries = c.args.entries.now in
    let bytes = c.args.bytes.now in
    let h = c.in-Some.ensures.lookup in
    let here = entry-read entries entries (c.number_in.result - 1) (number_below_tag c.args.cell - 1) c.in-Some.entry.now refl (ap (λ n. n - 1) c.number_in.ensures) h.3.0 h.1 in (
      λ f. absurd (cc (f)),
      λ tells. absurd (
          let same : tells.1 ≡ c.in-Some.entry.now = cc (tells.2, here) in
          let start : entry_start tells.1 ≡ entry_start c.in-Some.entry.now = ap entry_start same in
          let inside = begins-within bytes (entry_start tells.1) c.args.key.now tells.3 in
          omega (arith, start, inside, c.start_of-start.ensures, c.if-start-bytes.true)),
    )

pub returns : goal.returns
returns c =
    let entries = c.args.entries.now in
    let bytes = c.args.bytes.now in
    let entry = c.in-Some.entry.now in
    let h = c.in-Some.ensures.lookup in
    let here = entry-read entries entries (c.number_in.result - 1) (number_below_tag c.args.cell - 1) entry refl (ap (λ n. n - 1) c.number_in.ensures) h.3.0 h.1 in
    let whole = bytes-from bytes c.start_of-start.result ∙ ap (λ n. drop n bytes) c.start_of-start.ensures in
    let tag = sym c.tag_in.ensures ∙ (c.if-tag_in-tag.false ∙ c.requires.tag) in
    told-by entries bytes c.args.key.now c.args.cell entry c.begins_with_key.result tag here
    (subst (λ (l : List ℕ). IsTrue c.begins_with_key.result ↔ BeginsWithKey l c.args.key.now) whole c.begins_with_key.ensures)
