use Rattle.std.proofs.Common.{◌≡◌, ◌-◌, ◌≤◌, List, [], ◌∷◌, length, get_or, refl, ◌∙◌, ap, arith}
use Rattle.load_core.specs.declared.world.WorldEntry.{WorldEntry}
use Rattle.load_core.specs.WorldSteps.{last_number}
use Rattle.load_core.proofs.world.WorldDict.last_number.Goals as goal

-- the last number is that of the last entry
last_number_at : (entry : WorldEntry) (entries : List WorldEntry) (d : WorldEntry) → (get_or (entry ∷ entries) (length entries) d).number ≡ last_number (entry ∷ entries)
last_number_at entry [] d = refl
last_number_at entry (e ∷ es) d = last_number_at e es d

at_end : (entries : List WorldEntry) (d : WorldEntry) → 1 ≤ length entries → (get_or entries (length entries - 1) d).number ≡ last_number entries
at_end [] d l = absurd (omega arith)
at_end (e ∷ es) d l =
    let k : length (e ∷ es) - 1 ≡ length es = omega arith in
    rw k (last_number_at e es d)

pub returns-in-len1-up : goal.returns-in-len1-up
returns-in-len1-up c =
    ap (λ (e : WorldEntry). e.number) c.entry-item.is
    ∙ at_end c.as_slice.result.now c.entry-item.result c.in-len1-up.len_at_least
    ∙ ap last_number c.as_slice.ensures
