-- The members above another.
use Rattle.std.proofs.Common.{◌≡◌, ℕ, zero, suc, ◌+◌, ◌-◌, ◌<◌, List, length, get_or, refl, ap, arith, sym, ◌∙◌, subst}
use Rattle.hier.specs.Members.{AreSoundMembers, above}
use Rattle.hier.proofs.Lists.{number-read}

pub above-none : (ups : List ℕ) (member : ℕ) → above ups 0 member ≡ member
unfolding above
above-none ups member = refl

pub above-suc : (ups : List ℕ) (count member : ℕ) → above ups (suc count) member ≡ get_or ups (above ups count member) 0 - 1
unfolding above
above-suc ups count member = refl

pub above-more : (ups : List ℕ) (count member : ℕ) → above ups (count + 1) member ≡ get_or ups (above ups count member) 0 - 1
above-more ups count member =
    let e : suc count ≡ count + 1 = omega arith in
    subst (λ n. above ups n member ≡ get_or ups (above ups count member) 0 - 1) e (above-suc ups count member)

-- those above one that is above
pub above-add : (ups : List ℕ) (member i j : ℕ) → above ups (i + j) member ≡ above ups j (above ups i member)
above-add ups member i zero =
    let e : i ≡ i + 0 = omega arith in
    subst (λ n. above ups n member ≡ above ups 0 (above ups i member)) e (sym (above-none ups (above ups i member)))
above-add ups member i (suc j) =
    let e : i + j + 1 ≡ i + suc j = omega arith in
    subst (λ n. above ups n member ≡ above ups (suc j) (above ups i member)) e
    (above-more ups (i + j) member ∙ (ap (λ m. get_or ups m 0 - 1) (above-add ups member i j) ∙ sym (above-suc ups j (above ups i member))))

-- the first step
pub above-front : (ups : List ℕ) (member j : ℕ) → above ups (suc j) member ≡ above ups j (get_or ups member 0 - 1)
above-front ups member j =
    let e : 1 + j ≡ suc j = omega arith in
    let one : above ups 1 member ≡ get_or ups member 0 - 1 = above-suc ups 0 member ∙ ap (λ m. get_or ups m 0 - 1) (above-none ups member) in
    subst (λ n. above ups n member ≡ above ups j (get_or ups member 0 - 1)) e
    (above-add ups member 1 j ∙ ap (λ m. above ups j m) one)

-- the members of a chain are members
pub sound-within : (members ups lengths firsts nexts : List ℕ) → AreSoundMembers members ups lengths firsts nexts → (start i : ℕ) → start < length members → i < get_or lengths start 0 → above ups i start < length members
sound-within members ups lengths firsts nexts s start zero l h = subst (λ m. m < length members) (sym (above-none ups start)) l
sound-within members ups lengths firsts nexts s start (suc i) l h =
    let m = above-suc ups i start in
    let u = s.linked start i (omega arith) in
    let most = s.up (above ups i start) in
    omega (arith, m, u, most)

-- the next member of a chain
pub above-next : (ups : List ℕ) (start at place : ℕ) → at ≡ above ups place start → get_or ups at 0 - 1 ≡ above ups (place + 1) start
above-next ups start at place is = ap (λ m. get_or ups m 0 - 1) is ∙ sym (above-more ups place start)

-- a member of a chain, by the length that was read
pub walk-within : (members ups lengths firsts nexts : List ℕ) → AreSoundMembers members ups lengths firsts nexts → (start at place long : ℕ) → start < length members
    → long ≡ get_or lengths start long → place < long → at ≡ above ups place start → at < length members
walk-within members ups lengths firsts nexts s start at place long inside read l is =
    let len = number-read lengths start long (let n = s.lengths_len in omega (arith, n, inside)) read in
    let within = sound-within members ups lengths firsts nexts s start place inside (omega (arith, len, l)) in
    omega (arith, is, within)

-- the next member, by the cell that was read
pub walk-next : (members ups lengths firsts nexts : List ℕ) → AreSoundMembers members ups lengths firsts nexts → (start at place cell : ℕ) → at < length members
    → cell ≡ get_or ups at cell → at ≡ above ups place start → cell - 1 ≡ above ups (place + 1) start
walk-next members ups lengths firsts nexts s start at place cell within read is =
    let u = number-read ups at cell (let n = s.ups_len in omega (arith, n, within)) read in
    ap (λ k. k - 1) (sym u) ∙ above-next ups start at place is
