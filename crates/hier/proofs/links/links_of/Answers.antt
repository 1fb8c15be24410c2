-- A row more.
use Rattle.std.proofs.Common.{◌≡◌, ◌<◌, ◌≤◌, ◌+◌, ◌∙◌, ℕ, List, length, get_or, set, arith, length-set, subst, sym, ap, Vec, Global}
use Rattle.std.proofs.lemmas.Option.{slice_get-get_or}
use Rattle.hier.specs.steps.Linking.{TellsRow}
use Rattle.hier.proofs.Lists.{number-read, rises-one}
use Rattle.hier.proofs.Rows.{rows-kept, rows-put, ups-within}
use Rattle.hier.proofs.links.links_of.Goals as goal
use Rattle.hier.proofs.links.links_of.Goals.{then-index-eq0, else-index-eq0}

pub loop-row-preserved : goal.loop-row-preserved
loop-row-preserved c =
    let l = c.loop-row in
    let i = l.invariant in
    let keys = c.args.keys.now in
    let parents = c.args.parents.now in
    let members = c.args.members.now in
    let found = c.in-Some.member in
    let at = c.in-Some.ensures.found in
    let one : (m : ℕ) → m < length members → get_or members m 0 ≡ get_or members found 0 → m ≡ found = λ m lm e. rises-one members m found c.requires.rises lm at.0 e in
    let in_rows : found < length l.rows.items = let a = at.0 in let r = i.rows_len in omega (arith, a, r) in
    let read = number-read l.rows.items found c.index.result.now in_rows c.index.ensures in
    elim c.if-index-eq0.branch [
      | then-index-eq0 w ↦
          let r = ap (λ (v : Vec ℕ Global). v.items) w.rows-is in
          let u = ap (λ (v : Vec ℕ Global). v.items) w.ups-is in
          record {
            rows_len = ap length r ∙ (length-set l.rows.items found _ ∙ i.rows_len);
            ups_len = ap length u ∙ (length-set l.ups.items found _ ∙ i.ups_len);
            within = λ m. subst (λ (z : List ℕ). get_or z m 0 ≤ length members) (sym u) (ups-within l.ups.items found w.up_of.result (length members) w.up_of.ensures.within i.within m);
            told = λ m lm.
                subst (λ (z : List ℕ). TellsRow keys parents members (l.row + 1) (get_or members m 0) (get_or c.if-index-eq0.rows.items m 0) (get_or z m 0)) (sym u)
                (subst (λ (z : List ℕ). TellsRow keys parents members (l.row + 1) (get_or members m 0) (get_or z m 0) (get_or (set l.ups.items found w.up_of.result) m 0)) (sym r)
                (rows-put keys parents members l.rows.items l.ups.items l.row found at.0 (sym at.1) one i.rows_len i.ups_len (read ∙ w.if-index-eq0.true) _ (slice_get-get_or parents l.row _ (omega arith)) w.up_of.result w.up_of.ensures.is i.told m lm));
          }
      | else-index-eq0 w ↦
          let r = ap (λ (v : Vec ℕ Global). v.items) w.rows-is in
          let u = ap (λ (v : Vec ℕ Global). v.items) w.ups-is in
          record {
            rows_len = ap length r ∙ i.rows_len;
            ups_len = ap length u ∙ i.ups_len;
            within = λ m. subst (λ (z : List ℕ). get_or z m 0 ≤ length members) (sym u) (i.within m);
            told = λ m lm.
                subst (λ (z : List ℕ). TellsRow keys parents members (l.row + 1) (get_or members m 0) (get_or c.if-index-eq0.rows.items m 0) (get_or z m 0)) (sym u)
                (subst (λ (z : List ℕ). TellsRow keys parents members (l.row + 1) (get_or members m 0) (get_or z m 0) (get_or l.ups.items m 0)) (sym r)
                (rows-kept keys parents members l.rows.items l.ups.items l.row found at.0 (sym at.1) one (λ e. w.if-index-eq0.false (sym read ∙ e)) i.told m lm));
          }
    ]
