-- A bucket more.
use Rattle.std.proofs.Common.{◌≡◌, ◌≢◌, ◌⊎◌, Bool, ◌<◌, ◌≤◌, ◌*◌, ◌%◌, ◌^◌, ℕ, List, length, set, inl, inr, refl, arith, subst, sym, ◌∙◌, length-set}
use Rattle.std.proofs.lemmas.Bool.{cases_eq}
use Rattle.ip_trie.specs.Cells.{AreLeaves, EndsAbove, IsBucket, IsTrie, TellsBest, next_at, node, top}
use Rattle.ip_trie.specs.declared.cells.Cell.{Cell}
use Rattle.ip_trie.specs.declared.cells.Leaf.{Leaf}
use Rattle.ip_trie.proofs.Scans.{closed-bucket, bucket-kept, bucket-made, bucket-trie, tells-within}
use Rattle.ip_trie.proofs.build.fill_table.Goals as goal

pub loop-bucket-preserved : goal.loop-bucket-preserved
loop-bucket-preserved c =
    let cells = c.loop-bucket.cells.items in
    let bucket = c.loop-bucket.bucket in
    let cell = c.scanned-cell.result in
    let i = c.loop-bucket.invariant in
    let low : bucket < 65536 = c.loop-bucket-test.true in
    let size : 65552 ≤ length cells = let s = c.requires.size in let l = i.len in omega (arith, s, l) in
    let within = subst (λ (z : List Cell). cell.next ≢ 0 → (cell.next ≡ 65536) ⊎ ((k : ℕ) × (cell.next ≡ next_at z k))) c.as_slice.ensures.value c.scanned-cell.ensures.within in
    let first : ℕ = bucket * 2 ^ 112 % 2 ^ 128 in
    let at : top 16 first ≡ bucket = omega (arith, low) in
    let told = subst (λ (z : List Cell). (leaves : List Leaf) (v6 : Bool) → AreLeaves leaves → IsTrie leaves v6 (length leaves) z
    → (cell.next ≡ node z first 4) × TellsBest leaves (EndsAbove leaves v6 4 first) cell.row) c.as_slice.ensures.value c.scanned-cell.ensures.told in
    record {
      len = length-set cells bucket cell ∙ i.len;
      closed = closed-bucket cells bucket cell i.closed size (omega (arith, low, size)) within;
      trie = λ leaves v6 sound t.
          let now = i.trie leaves v6 sound t in
          let q = told leaves v6 sound now in
          bucket-trie leaves v6 cells (set cells bucket cell) bucket cell low refl sound now within (tells-within leaves v6 4 first cell.row q.1);
      buckets = λ leaves v6 sound t s l.
          let now = i.trie leaves v6 sound t in
          let q = told leaves v6 sound now in
          let row = tells-within leaves v6 4 first cell.row q.1 in
          elim (cases_eq s bucket) [
            | inr ne ↦ bucket-kept leaves v6 cells (set cells bucket cell) bucket cell low refl sound now within row s ne (i.buckets leaves v6 sound t s (omega (arith, l, ne)))
            | inl e ↦ subst (IsBucket leaves v6 (set cells bucket cell)) (sym e) (bucket-made leaves v6 cells (set cells bucket cell) bucket cell low refl sound now within row first at q.0 q.1)
          ];
    }

pub returns : goal.returns
returns c = λ leaves v6 sound t. record {
  trie = c.loop-bucket.invariant.trie leaves v6 sound t;
  table = λ bucket l. c.loop-bucket.invariant.buckets leaves v6 sound t bucket (omega (arith, l));
}
