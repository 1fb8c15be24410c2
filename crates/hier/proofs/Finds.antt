-- Searches for the members below others.
use Rattle.std.specs.Prelude.{All, Contains, IfOk, Result, Ok, Err, ◌↔◌}
use Rattle.std.proofs.Common.{◌≡◌, ◌≢◌, ℕ, zero, suc, ◌+◌, ◌-◌, ◌<◌, ◌≤◌, List, [], ◌∷◌, ◌++◌, drop, length, map, take, get_or, inl, inr, refl, ap, arith, sym, ◌∙◌, subst, append_assoc, append-nil, length-append}
use Rattle.std.proofs.lemmas.Bool.{cases_eq, cases_lt}
use Rattle.std.proofs.lemmas.Grind.{common_steps}
use Rattle.std.proofs.lemmas.List.{get_or-append_right, get_or_append_left, get_or-drop, get_or-map, length-drop, length-map}
use Rattle.std.proofs.lemmas.List.Elements.{All-from_get_or, Contains-append_cases, Contains-append_left, Contains-append_right, Contains-push, Contains-push_cases}
use Rattle.hier.specs.Members.{IsBelow, IsFoundAt, Reaches, TellsNext}
use Rattle.hier.specs.steps.Finding.{AddsBelow, AddsLevel, IsSearched, StandsFrom}
use Rattle.hier.proofs.Lists.{at-contains, contains-at}

-- the members below one, up to a member, are appended
pub record IsSoFar (ups : List ℕ) (of but : ℕ) (old now : List ℕ) (cell : ℕ) : Type 0 where
  pub tail : List ℕ
  pub is : now ≡ old ++ tail
  pub start : ℕ
  pub told : (other : ℕ) → Contains tail other ↔ ((other < start) × ((other ≢ but) × IsBelow ups of other))
  pub next : TellsNext ups start (of + 1) cell

contains-none : {A : Type 0} (x : A) → Contains [] x → ⊥
contains-none x h = let l = h.1 in omega (arith, l)

pub so-far-none : (ups : List ℕ) (of but : ℕ) (old : List ℕ) (cell : ℕ) → TellsNext ups 0 (of + 1) cell → IsSoFar ups of but old old cell
so-far-none ups of but old cell t = record {
  tail = [];
  is = sym (append-nil old);
  start = 0;
  told = λ other. (λ h. absurd (contains-none other h), λ h. absurd (let l = h.0 in omega (arith, l)));
  next = t;
}

-- a member that isn't appended
pub so-far-skip : (ups : List ℕ) (of : ℕ) (old now : List ℕ) (cell : ℕ) → 0 < cell → (so : IsSoFar ups of (cell - 1) old now cell) → (next : ℕ)
    → (get_or ups (cell - 1) 0 ≡ of + 1 → TellsNext ups (cell - 1 + 1) (of + 1) next) → IsSoFar ups of (cell - 1) old now next
so-far-skip ups of old now cell some so next t = record {
  tail = so.tail;
  is = so.is;
  start = cell - 1 + 1;
  told = λ other.
      let w = so.next.within some in (
        λ h. let q = (so.told other).0 h in (let a = q.0 in let b = w.0 in omega (arith, a, b), q.1),
        λ h. (so.told other).1 (elim (cases_lt other so.start) [
          | inl before ↦ (before, h.1)
          | inr from ↦ elim (cases_eq other (cell - 1)) [
            | inl same ↦ absurd (h.1.0 same)
            | inr ne ↦ absurd (so.next.least some other from (let a = h.0 in omega (arith, a, ne)) h.1.1.1)
          ]
        ]),
      );
  next = t (so.next.here some);
}

-- a member more
pub so-far-more : (ups : List ℕ) (of but : ℕ) (old now new : List ℕ) (cell : ℕ) → 0 < cell → cell - 1 ≢ but → (so : IsSoFar ups of but old now cell) → (next : ℕ)
    → new ≡ now ++ (cell - 1) ∷ [] → (get_or ups (cell - 1) 0 ≡ of + 1 → TellsNext ups (cell - 1 + 1) (of + 1) next) → IsSoFar ups of but old new next
so-far-more ups of but old now new cell some other_one so next more t = record {
  tail = so.tail ++ (cell - 1) ∷ [];
  is = more ∙ (ap (λ (z : List ℕ). z ++ (cell - 1) ∷ []) so.is ∙ append_assoc old so.tail ((cell - 1) ∷ []));
  start = cell - 1 + 1;
  told = λ other.
      let w = so.next.within some in
      let here : IsBelow ups of (cell - 1) = ((let a = w.1 in omega (arith, a, some)), so.next.here some) in (
        λ h. elim (Contains-push_cases so.tail (cell - 1) other h) [
          | inl before ↦ let q = (so.told other).0 before in (let a = q.0 in let b = w.0 in omega (arith, a, b), q.1)
          | inr same ↦ subst (λ m. (m < cell - 1 + 1) × ((m ≢ but) × IsBelow ups of m)) same (omega arith, (other_one, here))
        ],
        λ h. elim (cases_lt other so.start) [
          | inl before ↦ Contains-append_left so.tail ((cell - 1) ∷ []) other ((so.told other).1 (before, h.1))
          | inr from ↦ elim (cases_eq other (cell - 1)) [
            | inl same ↦ subst (λ m. Contains (so.tail ++ (cell - 1) ∷ []) m) (sym same) (Contains-push so.tail (cell - 1))
            | inr ne ↦ absurd (so.next.least some other from (let a = h.0 in omega (arith, a, ne)) h.1.1.1)
          ]
        ],
      );
  next = t (so.next.here some);
}

pub so-far-all : (ups : List ℕ) (of but : ℕ) (old now : List ℕ) → IsSoFar ups of but old now 0 → AddsBelow ups of but old now
so-far-all ups of but old now so = (
  so.tail,
  so.is,
  λ other. (
    λ h. ((so.told other).0 h).1,
    λ h. (so.told other).1 (elim (cases_lt other so.start) [
      | inl before ↦ (before, h)
      | inr from ↦ absurd (so.next.none refl other from h.1.0 h.1.1)
    ]),
  ),
)

-- ---- members below those at places

pub level-none : (ups : List ℕ) (start but : ℕ) (old : List ℕ) → AddsLevel ups start start but old old
level-none ups start but old =
    ([], sym (append-nil old), λ other. (λ h. absurd (contains-none other h), λ h. absurd (let a = h.1.1 in let b = h.1.2 in omega (arith, a, b))))

pub level-more : (ups : List ℕ) (start n but : ℕ) (old now new : List ℕ) → start ≤ n → n < length old → AddsLevel ups start n but old now
    → AddsBelow ups (get_or old n 0) but now new → AddsLevel ups start (n + 1) but old new
level-more ups start n but old now new from l (tail, is, told) (more, js, below) = (
  tail ++ more,
  js ∙ (ap (λ (z : List ℕ). z ++ more) is ∙ append_assoc old tail more),
  λ other. (
    λ h. elim (Contains-append_cases tail more other h) [
      | inl before ↦ let q = (told other).0 before in (q.0, (q.1.0, q.1.1, (let a = q.1.2 in omega (arith, a)), q.1.3))
      | inr here ↦ let q = (below other).0 here in (q.0, (n, from, omega arith, q.1))
    ],
    λ h. elim (cases_lt h.1.0 n) [
      | inl before ↦ Contains-append_left tail more other ((told other).1 (h.0, (h.1.0, h.1.1, before, h.1.3)))
      | inr last ↦
          let e : h.1.0 ≡ n = let a = h.1.2 in omega (arith, a, last) in
          Contains-append_right tail more other ((below other).1 (h.0, subst (λ k. IsBelow ups (get_or old k 0) other) e h.1.3))
    ],
  ),
)

-- what stood there stands still
pub stood : (ups : List ℕ) (start n but : ℕ) (old now : List ℕ) → AddsLevel ups start n but old now → (place : ℕ) → place < length old → (place < length now) × (get_or now place 0 ≡ get_or old place 0)
stood ups start n but old now (tail, is, told) place l =
    let e = ap length is ∙ length-append old tail in
    (omega (arith, e), ap (λ (z : List ℕ). get_or z place 0) is ∙ get_or_append_left old tail 0 place l)

-- ---- members at places

stands-contains : (found : List ℕ) (member : ℕ) → StandsFrom found 0 member ↔ Contains found member
stands-contains found member = (
  λ h. at-contains found h.0 member h.2 h.3,
  λ h. let a = contains-at found member h in (a.0, omega arith, a.1, a.2),
)

stands-tail : (old tail new : List ℕ) (member : ℕ) → new ≡ old ++ tail → StandsFrom new (length old) member ↔ Contains tail member
stands-tail old tail new member is =
    let e = ap length is ∙ length-append old tail in (
      λ h.
          let l : h.0 - length old < length tail = let a = h.1 in let b = h.2 in omega (arith, a, b, e) in
          at-contains tail (h.0 - length old) member l (sym (get_or-append_right old tail (length old) h.0 0 refl h.1) ∙ (ap (λ (z : List ℕ). get_or z h.0 0) (sym is) ∙ h.3)),
      λ h.
          let a = contains-at tail member h in
          let q : length old + a.0 - length old ≡ a.0 = omega arith in (
            length old + a.0,
            omega arith,
            (let b = a.1 in omega (arith, b, e)),
            ap (λ (z : List ℕ). get_or z (length old + a.0) 0) is ∙ (get_or-append_right old tail (length old) (length old + a.0) 0 refl (omega arith) ∙ (ap (λ k. get_or tail k 0) q ∙ a.2)),
          ),
    )

-- ---- level by level

reaches-one : (ups : List ℕ) (of other : ℕ) → ((other ≢ of) × IsBelow ups of other) ↔ Reaches ups of 1 other
reaches-one ups of other = (
  λ h. (h.0, h.1.0, (let a = h.1.1 in omega (arith, a)), (let a = h.1.1 in omega (arith, a))),
  λ h. (h.0, (h.1, (let a = h.2 in let b = h.3 in omega (arith, a, b)))),
)

pub searched-one : (ups : List ℕ) (of : ℕ) (old found : List ℕ) → old ≡ [] → AddsBelow ups of of old found → IsSearched ups of 1 found 0
searched-one ups of old found empty (tail, is, told) =
    let same : found ≡ tail = is ∙ ap (λ (z : List ℕ). z ++ tail) empty in
    let one : (other : ℕ) → StandsFrom found 0 other ↔ Reaches ups of 1 other = λ other. (
      λ h. (reaches-one ups of other).0 ((told other).0 (subst (λ (z : List ℕ). Contains z other) same ((stands-contains found other).0 h))),
      λ r. (stands-contains found other).1 (subst (λ (z : List ℕ). Contains z other) (sym same) ((told other).1 ((reaches-one ups of other).1 r))),
    ) in
    record {
      within = omega arith;
      last = one;
      all = λ other. (
        λ h. (1, omega arith, omega arith, (one other).0 h),
        λ h.
            let e : h.0 ≡ 1 = let a = h.1 in let b = h.2 in omega (arith, a, b) in
            (one other).1 (subst (λ k. Reaches ups of k other) e h.3),
      );
    }

pub searched-more : (ups : List ℕ) (of n start : ℕ) (found new : List ℕ) → IsSearched ups of n found start → AddsLevel ups start (length found) of found new → IsSearched ups of (n + 1) new (length found)
searched-more ups of n start found new s (tail, is, told) =
    let u : suc n ≡ n + 1 = omega arith in
    let len = ap length is ∙ length-append found tail in
    let to : (other : ℕ) → Contains tail other → Reaches ups of (n + 1) other = λ other h.
    let q = (told other).0 h in
    let place = q.1.0 in
    let below = q.1.3 in
    let up : get_or ups other 0 - 1 ≡ get_or found place 0 = let b = below.1 in omega (arith, b) in
    let r = (s.last (get_or found place 0)).0 (place, q.1.1, q.1.2, refl) in
    subst (λ k. Reaches ups of k other) u (q.0, below.0, (let b = below.1 in omega (arith, b)), subst (Reaches ups of n) (sym up) r) in
    let from : (other : ℕ) → Reaches ups of (n + 1) other → Contains tail other = λ other r.
    let q : Reaches ups of (suc n) other = subst (λ k. Reaches ups of k other) (sym u) r in
    let at = (s.last (get_or ups other 0 - 1)).1 q.3 in
    (told other).1 (q.0, (at.0, at.1, at.2, (q.1, (let a = at.3 in let b = q.2 in omega (arith, a, b))))) in
    record {
      within = omega (arith, len);
      last = λ other. (
        λ h. to other ((stands-tail found tail new other is).0 h),
        λ r. (stands-tail found tail new other is).1 (from other r),
      );
      all = λ other. (
        λ h. elim (Contains-append_cases found tail other (subst (λ (z : List ℕ). Contains z other) is ((stands-contains new other).0 h))) [
          | inl before ↦
              let q = (s.all other).0 ((stands-contains found other).1 before) in
              (q.0, q.1, (let a = q.2 in omega (arith, a)), q.3)
          | inr here ↦ (n + 1, omega arith, omega arith, to other here)
        ],
        λ h. (stands-contains new other).1 (subst (λ (z : List ℕ). Contains z other) (sym is) (elim (cases_lt h.0 (n + 1)) [
          | inl before ↦ Contains-append_left found tail other ((stands-contains found other).0 ((s.all other).1 (h.0, h.1, omega (arith, before), h.3)))
          | inr last ↦
              let e : h.0 ≡ n + 1 = let a = h.2 in omega (arith, a, last) in
              Contains-append_right found tail other (from other (subst (λ k. Reaches ups of k other) e h.3))
        ])),
      );
    }

-- who is reached at a level is reached over one at each level below
reaches-over : (ups : List ℕ) (of n k other : ℕ) → Reaches ups of (n + k) other → (between : ℕ) × Reaches ups of n between
reaches-over ups of n zero other r = let e : n + 0 ≡ n = omega arith in (other, subst (λ m. Reaches ups of m other) e r)
reaches-over ups of n (suc k) other r =
    let e : n + suc k ≡ suc (n + k) = omega arith in
    let q : Reaches ups of (suc (n + k)) other = subst (λ m. Reaches ups of m other) e r in
    reaches-over ups of n k (get_or ups other 0 - 1) q.3

pub searched-all : (ups : List ℕ) (of n levels start : ℕ) (found : List ℕ) → n ≤ levels → start ≡ length found → IsSearched ups of n found start → IsSearched ups of levels found start
searched-all ups of n levels start found most empty s =
    let none : (m other : ℕ) → n ≤ m → Reaches ups of m other → ⊥ = λ m other le r.
    let e : m ≡ n + (m - n) = omega arith in
    let q = reaches-over ups of n (m - n) other (subst (λ k. Reaches ups of k other) e r) in
    let at = (s.last q.0).1 q.1 in
    let a = at.1 in let b = at.2 in omega (arith, a, b, empty) in
    record {
      within = s.within;
      last = λ other. (
        λ h. absurd (let a = h.1 in let b = h.2 in omega (arith, a, b, empty)),
        λ r. absurd (none levels other most r),
      );
      all = λ other. (
        λ h. let q = (s.all other).0 h in (q.0, q.1, (let a = q.2 in omega (arith, a)), q.3),
        λ h. elim (cases_lt h.0 n) [
          | inl before ↦ (s.all other).1 (h.0, h.1, omega (arith, before), h.3)
          | inr behind ↦ absurd (none h.0 other behind h.3)
        ],
      );
    }

-- those who are found at a level, from 1
pub found-at : (ups : List ℕ) (of level other : ℕ) → 0 < level → Reaches ups of level other ↔ IsFoundAt ups of level other
found-at ups of zero other some = absurd (omega (arith, some))
found-at ups of (suc level) other some = (λ r. r, λ r. r)

-- ---- the keys of members

pub keys-stand : (names found keys : List ℕ) (start key : ℕ) → keys ≡ map (λ m. get_or names m 0) (drop start found)
    → Contains keys key ↔ ((member : ℕ) × StandsFrom found start member × (get_or names member 0 ≡ key))
keys-stand names found keys start key is =
    let f : ℕ → ℕ = λ m. get_or names m 0 in
    let len : length keys ≡ length found - start = ap length is ∙ (length-map (drop start found) f ∙ length-drop start found) in
    let at : (i : ℕ) → i < length keys → get_or keys i 0 ≡ f (get_or found (start + i) 0) = λ i l.
    ap (λ (z : List ℕ). get_or z i 0) is
    ∙ (get_or-map f (drop start found) i 0 0 (let d = length-drop start found in omega (arith, len, d, l)) ∙ ap f (get_or-drop start found i 0)) in (
      λ h.
          let a = contains-at keys key h in
          (get_or found (start + a.0) 0, (start + a.0, omega arith, (let b = a.1 in omega (arith, b, len)), refl), sym (at a.0 a.1) ∙ a.2),
      λ (member, h, e).
          let l : h.0 - start < length keys = let a = h.1 in let b = h.2 in omega (arith, a, b, len) in
          let q : start + (h.0 - start) ≡ h.0 = let a = h.1 in omega (arith, a) in
          at-contains keys (h.0 - start) key l (at (h.0 - start) l ∙ (ap (λ k. f (get_or found k 0)) q ∙ (ap f h.3 ∙ e))),
    )

-- what follows of a value, if there is one
pub if-ok : {T E : Type 0} (r : Result T E) (P Q : T → Type 0) → ((v : T) → P v → Q v) → IfOk r P → IfOk r Q
if-ok (Ok v) P Q f p = f v p
if-ok (Err e) P Q f p = p

-- those who are found at all levels of 32 bits
pub found-all : (ups : List ℕ) (of levels start : ℕ) (found : List ℕ) → levels ≡ 4294967295 → IsSearched ups of levels found start → (other : ℕ) → StandsFrom found 0 other ↔ IsFoundAt ups of 0 other
found-all ups of levels start found most s other = (
  λ h. let q = (s.all other).0 h in (q.0, q.1, (let a = q.2 in omega (arith, a, most)), q.3),
  λ h. (s.all other).1 (h.0, h.1, (let a = h.2 in omega (arith, a, most)), h.3),
)

pub reaches-within : (ups : List ℕ) (of level other : ℕ) → 0 < level → Reaches ups of level other → other < length ups
reaches-within ups of zero other some r = absurd (omega (arith, some))
reaches-within ups of (suc level) other some r = r.1

pub found-within : (ups : List ℕ) (of level other : ℕ) → IsFoundAt ups of level other → other < length ups
found-within ups of zero other (level, some, short, r) = reaches-within ups of level other some r
found-within ups of (suc level) other r = r.1

pub range-drop : (xs : List ℕ) (n : ℕ) → take (length xs - n) (drop n xs) ≡ drop n xs
range-drop xs n = grind (arith, common_steps)

pub found-drop : (ups : List ℕ) (of level start most : ℕ) (found list : List ℕ) → ((other : ℕ) → StandsFrom found start other ↔ IsFoundAt ups of level other)
    → list ≡ drop start found → length ups ≡ most → All (λ m. m < most) list
found-drop ups of level start most found list told is len =
    All-from_get_or (λ m. m < most) list 0 (λ i l.
    let n = ap length is ∙ length-drop start found in
    let at = ap (λ (z : List ℕ). get_or z i 0) is ∙ get_or-drop start found i 0 in
    let w = found-within ups of level (get_or found (start + i) 0) ((told (get_or found (start + i) 0)).0 (start + i, omega arith, omega (arith, l, n), refl)) in
    omega (arith, at, w, len))
