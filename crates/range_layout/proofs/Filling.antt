-- Edges that are found border by border.
use Rattle.std.specs.List.Sorted.{IsStrictlyIncreasing}
use Rattle.std.proofs.Common.{◌≡◌, ◌≢◌, ◌⊎◌, ℕ, ◌+◌, ◌-◌, ◌%◌, ◌^◌, ◌<◌, ◌≤◌, List, [], ◌∷◌, ◌++◌, length, length-append, get_or, inl, inr, refl, sym, ◌∙◌, ap, subst, arith}
use Rattle.std.proofs.lemmas.Bool.{cases_eq, cases_lt}
use Rattle.std.proofs.lemmas.List.{get_or-append_right, get_or_append_left}
use Rattle.range_layout.specs.steps.Filling.{AddsEdge, AreBorders, AreEdgesOf, AreKeyBorders, AreSpansIn, IsLastBorder, IsSpanIn, KeepsFirst, border_number, point_at, span_at}
use Rattle.range_layout.specs.declared.index.Span.{Span}
use Rattle.range_layout.proofs.Nths.{nth-less}
use Rattle.range_layout.proofs.Rising.{rises-less, rises-no_less}

-- the list stays as it is, or has one number more
pub keeps-same : (xs : List ℕ) → KeepsFirst xs xs
keeps-same xs = record { len = omega arith; same = λ i l. refl }

pub keeps-push : (xs ys zs : List ℕ) (x : ℕ) → zs ≡ ys ++ x ∷ [] → KeepsFirst xs ys → KeepsFirst xs zs
keeps-push xs ys zs x is k =
    let n = ap length is in
    let m = length-append ys (x ∷ []) in
    let l = k.len in
    record {
      len = omega (arith, n, m, l);
      same = λ i less.
          let e : get_or zs i 0 ≡ get_or (ys ++ x ∷ []) i 0 = ap (λ (z : List ℕ). get_or z i 0) is in
          e ∙ (get_or_append_left ys (x ∷ []) 0 i (omega (arith, less, l)) ∙ k.same i less);
    }

pub push-here : (ys zs : List ℕ) (x : ℕ) → zs ≡ ys ++ x ∷ [] → get_or zs (length ys) 0 ≡ x
push-here ys zs x is = ap (λ (z : List ℕ). get_or z (length ys) 0) is ∙ get_or-append_right ys (x ∷ []) (length ys) (length ys) 0 refl (omega arith) ∙ ap (λ k. get_or (x ∷ []) k 0) none
  where
    none : length ys - length ys ≡ 0
    none = omega arith

-- the points of a key's borders rise
pub points-less : (points borders : List ℕ) (i j : ℕ) → AreBorders points borders → i < j → j < length borders → border_number borders i ≡ border_number borders j → point_at points borders i < point_at points borders j
points-less points borders i j s l within same =
    let less = rises-less borders i j s.rises l within in
    nth-less points s.points_rise (get_or borders i 0 % 2 ^ 32) (get_or borders j 0 % 2 ^ 32) (omega (arith, less, same)) (s.within j within)

-- what is changed after an edge doesn't change what is found before it
abbrev SameTo : ℕ → List ℕ → List ℕ → Type 0
SameTo end old new = (i : ℕ) → i < end → get_or new i 0 ≡ get_or old i 0

pub edges-kept : (points borders taken : List ℕ) (from to : ℕ) (edges winners new_edges new_winners : List ℕ) (start end : ℕ) → SameTo end edges new_edges → SameTo end winners new_winners
    → AreEdgesOf points borders taken from to edges winners start end → AreEdgesOf points borders taken from to new_edges new_winners start end
edges-kept points borders taken from to edges winners new_edges new_winners start end se sw f = record {
  order = f.order;
  few = f.few;
  rises = λ i j a l b.
      let u = f.rises i j a l b in
      let x = se i (omega (arith, l, b)) in
      let y = se j b in
      omega (arith, u, x, y);
  origin = λ i a b. let o = f.origin i a b in (o.0, o.1, o.2, se i b ∙ o.3);
  before = λ x h. f.before x (λ some. let u = h some in let e = se start some in omega (arith, u, e));
  on = λ x i a b reached next.
      let e = se i b in
      let o = f.on x i a b (omega (arith, reached, e)) (λ more. let u = next more in let y = se (i + 1) more in omega (arith, u, y)) in
      (o.0, o.1, sw i b ∙ o.2);
  first = λ some e. f.first some (sym (sw start some) ∙ e);
  changes = λ i a l e. f.changes i a l (sym (sw (i + 1) l) ∙ (e ∙ sw i (omega (arith, l))));
  last_none = f.last_none;
  last_some = λ l some. f.last_some l some ∙ sym (sw (end - 1) (omega (arith, some)));
}

pub edges-none : (points borders taken edges winners : List ℕ) (from start : ℕ) → AreEdgesOf points borders taken from from edges winners start start
edges-none points borders taken edges winners from start = record {
  order = omega arith;
  few = omega arith;
  rises = λ i j a l b. absurd (omega (arith, a, l, b));
  origin = λ i a b. absurd (omega (arith, a, b));
  before = λ x h. inl (λ k a b. absurd (omega (arith, a, b)));
  on = λ x i a b. absurd (omega (arith, a, b));
  first = λ l. absurd (omega (arith, l));
  changes = λ i a l. absurd (omega (arith, a, l));
  last_none = λ l. absurd (omega (arith, l));
  last_some = λ l. absurd (omega (arith, l));
}

module _ (points borders taken : List ℕ) (from at : ℕ) (after : from ≤ at) (rise : (k : ℕ) → from ≤ k → k < at → point_at points borders k < point_at points borders at) where
  -- the border at `at` is the last one from its point on, and none before it
  last-here : (x : ℕ) → point_at points borders at ≤ x → IsLastBorder points borders from (at + 1) x at
  last-here x h = record { after = after; before = omega arith; reached = h; last = λ j a b. absurd (omega (arith, a, b)) }

  last-more : (x k : ℕ) → x < point_at points borders at → IsLastBorder points borders from at x k → IsLastBorder points borders from (at + 1) x k
  last-more x k h l = record {
    after = l.after;
    before = let b = l.before in omega (arith, b);
    reached = l.reached;
    last = λ j a b. elim (cases_lt j at) [
      | inl less ↦ l.last j a less
      | inr most ↦ let e : at ≡ j = omega (arith, most, b) in subst (λ (i : ℕ). x < point_at points borders i) e h
    ];
  }

  none-more : (x : ℕ) → x < point_at points borders at → ((k : ℕ) → from ≤ k → k < at → x < point_at points borders k) → (k : ℕ) → from ≤ k → k < at + 1 → x < point_at points borders k
  none-more x h none k a b = elim (cases_lt k at) [
    | inl less ↦ none k a less
    | inr most ↦ let e : at ≡ k = omega (arith, most, b) in subst (λ (i : ℕ). x < point_at points borders i) e h
  ]

  module _ (edges winners : List ℕ) (start end : ℕ) (f : AreEdgesOf points borders taken from at edges winners start end) where
    edge-low : (i : ℕ) → start ≤ i → i < end → get_or edges i 0 < point_at points borders at
    edge-low i a b =
        let o = f.origin i a b in
        let r = rise o.0 o.1 o.2 in
        let e = o.3 in
        omega (arith, r, e)

    before-more : (x : ℕ) → x < point_at points borders at → (start < end → x < get_or edges start 0)
        → ((k : ℕ) → from ≤ k → k < at + 1 → x < point_at points borders k) ⊎ ((k : ℕ) × IsLastBorder points borders from (at + 1) x k × (get_or taken k 0 ≡ 0))
    before-more x h lower = elim (f.before x lower) [
      | inl none ↦ inl (none-more x h none)
      | inr (k, l, zero) ↦ inr (k, last-more x k h l, zero)
    ]

    -- the row stays the same
    pub edges-same : (start ≡ end → get_or taken at 0 ≡ 0) → (start < end → get_or taken at 0 ≡ get_or winners (end - 1) 0) → AreEdgesOf points borders taken from (at + 1) edges winners start end
    edges-same none some =
        let here : at + 1 - 1 ≡ at = omega arith in
        let o = f.order in
        record {
          order = f.order;
          few = let w = f.few in omega (arith, w);
          rises = f.rises;
          origin = λ i a b. let q = f.origin i a b in let l = q.2 in (q.0, q.1, omega (arith, l), q.3);
          before = λ x lower. elim (cases_lt x (point_at points borders at)) [
            | inl h ↦ before-more x h lower
            | inr h ↦ elim (cases_lt start end) [
              | inl less ↦ let u = lower less in let v = edge-low start (omega arith) less in absurd (omega (arith, u, v, h))
              | inr most ↦ inr (at, last-here x h, none (omega (arith, most, o)))
            ]
          ];
          on = λ x i a b reached next. elim (cases_lt x (point_at points borders at)) [
            | inl h ↦ let q = f.on x i a b reached next in (q.0, last-more x q.0 h q.1, q.2)
            | inr h ↦ elim (cases_lt (i + 1) end) [
              | inl more ↦ let u = next more in let v = edge-low (i + 1) (omega (arith, a)) more in absurd (omega (arith, u, v, h))
              | inr most ↦
                  let e : end - 1 ≡ i = omega (arith, most, b) in
                  let s = some (omega (arith, a, b)) in
                  (at, last-here x h, sym (subst (λ n. get_or taken at 0 ≡ get_or winners n 0) e s))
            ]
          ];
          first = f.first;
          changes = f.changes;
          last_none = λ l e. subst (λ n. get_or taken n 0 ≡ 0) (sym here) (none e);
          last_some = λ l h. subst (λ n. get_or taken n 0 ≡ get_or winners (end - 1) 0) (sym here) (some h);
        }

    -- the row changes
    pub edges-more : (new_edges new_winners : List ℕ) → SameTo end edges new_edges → SameTo end winners new_winners → get_or new_edges end 0 ≡ point_at points borders at → get_or new_winners end 0 ≡ get_or taken at 0
        → (start ≡ end → get_or taken at 0 ≢ 0) → (start < end → get_or taken at 0 ≢ get_or winners (end - 1) 0) → AreEdgesOf points borders taken from (at + 1) new_edges new_winners start (end + 1)
    edges-more new_edges new_winners se sw edge winner none some =
        let o = f.order in
        record {
          order = omega (arith, o);
          few = let w = f.few in omega (arith, w);
          rises = λ i j a l b. elim (cases_lt j end) [
            | inl less ↦
                let u = f.rises i j a l less in
                let x = se i (omega (arith, l, less)) in
                let y = se j less in
                omega (arith, u, x, y)
            | inr most ↦
                let e : end ≡ j = omega (arith, most, b) in
                let u = edge-low i a (omega (arith, l, e)) in
                let x = se i (omega (arith, l, e)) in
                subst (λ k. get_or new_edges i 0 < get_or new_edges k 0) e (omega (arith, u, x, edge))
          ];
          origin = λ i a b. elim (cases_lt i end) [
            | inl less ↦ let q = f.origin i a less in let l = q.2 in (q.0, q.1, omega (arith, l), se i less ∙ q.3)
            | inr most ↦ let e : end ≡ i = omega (arith, most, b) in (at, after, omega arith, subst (λ k. get_or new_edges k 0 ≡ point_at points borders at) e edge)
          ];
          before = λ x lower.
              let u = lower (omega (arith, o)) in
              elim (cases_lt start end) [
                | inl less ↦
                    let e = se start less in
                    let v = edge-low start (omega arith) less in
                    before-more x (omega (arith, u, e, v)) (λ s. omega (arith, u, e))
                | inr most ↦
                    let e : start ≡ end = omega (arith, most, o) in
                    let w : get_or new_edges start 0 ≡ point_at points borders at = subst (λ k. get_or new_edges k 0 ≡ point_at points borders at) (sym e) edge in
                    before-more x (omega (arith, u, w)) (λ s. absurd (omega (arith, s, e)))
              ];
          on = λ x i a b reached next. elim (cases_lt i end) [
            | inl less ↦
                let e = se i less in
                let n = next (omega (arith, less)) in
                let low : x < point_at points borders at = elim (cases_lt (i + 1) end) [
                  | inl more ↦
                      let v = edge-low (i + 1) (omega (arith, a)) more in
                      let y = se (i + 1) more in
                      omega (arith, n, v, y)
                  | inr most ↦
                      let q : i + 1 ≡ end = omega (arith, most, less) in
                      let y : get_or new_edges (i + 1) 0 ≡ point_at points borders at = subst (λ k. get_or new_edges k 0 ≡ point_at points borders at) (sym q) edge in
                      omega (arith, n, y)
                ] in
                let q = f.on x i a less (omega (arith, reached, e)) (λ more. let y = se (i + 1) more in omega (arith, n, y)) in
                (q.0, last-more x q.0 low q.1, sw i less ∙ q.2)
            | inr most ↦
                let e : end ≡ i = omega (arith, most, b) in
                let y : get_or new_edges i 0 ≡ point_at points borders at = subst (λ k. get_or new_edges k 0 ≡ point_at points borders at) e edge in
                (at, last-here x (omega (arith, reached, y)), subst (λ k. get_or new_winners k 0 ≡ get_or taken at 0) e winner)
          ];
          first = λ l e. elim (cases_lt start end) [
            | inl less ↦ f.first less (sym (sw start less) ∙ e)
            | inr most ↦
                let q : start ≡ end = omega (arith, most, o) in
                none q (sym winner ∙ subst (λ k. get_or new_winners k 0 ≡ 0) q e)
          ];
          changes = λ i a l e. elim (cases_lt (i + 1) end) [
            | inl less ↦ f.changes i a less (sym (sw (i + 1) less) ∙ (e ∙ sw i (omega (arith, less))))
            | inr most ↦
                let q : i + 1 ≡ end = omega (arith, most, l) in
                let r : i ≡ end - 1 = omega (arith, q) in
                let there : get_or taken at 0 ≡ get_or winners i 0 = sym winner ∙ (subst (λ k. get_or new_winners k 0 ≡ get_or new_winners i 0) q e ∙ sw i (omega (arith, q))) in
                some (omega (arith, a, q)) (subst (λ k. get_or taken at 0 ≡ get_or winners k 0) r there)
          ];
          last_none = λ l e. absurd (omega (arith, e, o));
          last_some = λ l h.
              let x : at + 1 - 1 ≡ at = omega arith in
              let y : end + 1 - 1 ≡ end = omega arith in
              subst (λ n. get_or taken n 0 ≡ get_or new_winners (end + 1 - 1) 0) (sym x) (subst (λ n. get_or taken at 0 ≡ get_or new_winners n 0) (sym y) (sym winner));
        }

    -- a border more
    pub edges-added : (point winner : ℕ) (new_edges new_winners : List ℕ) → length winners ≡ length edges → end ≡ length edges → point ≡ point_at points borders at → winner ≡ get_or taken at 0
        → AddsEdge start point winner edges winners new_edges new_winners → AreEdgesOf points borders taken from (at + 1) new_edges new_winners start (length new_edges)
    edges-added point winner new_edges new_winners same is point_is winner_is (inl (e, w, none, some)) =
        let len : length winners ≡ end = omega (arith, same, is) in
        let kept = edges-same
        (λ q. sym winner_is ∙ none (omega (arith, q, len)))
        (λ l. sym winner_is ∙ subst (λ k. winner ≡ get_or winners (k - 1) 0) len (some (omega (arith, l, len)))) in
        let long : length new_edges ≡ end = ap length e ∙ sym is in
        subst (λ k. AreEdgesOf points borders taken from (at + 1) new_edges new_winners start k) (sym long)
        (subst (λ (z : List ℕ). AreEdgesOf points borders taken from (at + 1) new_edges z start end) (sym w)
        (subst (λ (z : List ℕ). AreEdgesOf points borders taken from (at + 1) z winners start end) (sym e) kept))
    edges-added point winner new_edges new_winners same is point_is winner_is (inr (e, w, none, some)) =
        let len : length winners ≡ end = omega (arith, same, is) in
        let n = ap length e in
        let m = length-append edges (point ∷ []) in
        let long : length new_edges ≡ end + 1 = omega (arith, n, m, is) in
        let ke = keeps-push edges edges new_edges point e (keeps-same edges) in
        let kw = keeps-push winners winners new_winners winner w (keeps-same winners) in
        subst (λ k. AreEdgesOf points borders taken from (at + 1) new_edges new_winners start k) (sym long)
        (edges-more new_edges new_winners (λ i l. ke.same i (omega (arith, l, is))) (λ i l. kw.same i (omega (arith, l, len)))
        (subst (λ k. get_or new_edges k 0 ≡ point_at points borders at) (sym is) (push-here edges new_edges point e ∙ point_is))
        (subst (λ k. get_or new_winners k 0 ≡ get_or taken at 0) len (push-here winners new_winners winner w ∙ winner_is))
        (λ q z. none (omega (arith, q, len)) (winner_is ∙ z))
        (λ l z. some (omega (arith, l, len)) (subst (λ k. winner ≡ get_or winners (k - 1) 0) (sym len) (winner_is ∙ z))))

-- what an edge more leaves
pub added-keeps : (start point winner : ℕ) (edges winners new_edges new_winners old_edges old_winners : List ℕ) → AddsEdge start point winner edges winners new_edges new_winners → KeepsFirst old_edges edges → KeepsFirst old_winners winners
    → length winners ≡ length edges → KeepsFirst old_edges new_edges × KeepsFirst old_winners new_winners × (length new_winners ≡ length new_edges)
added-keeps start point winner edges winners new_edges new_winners old_edges old_winners (inl (e, w, _, _)) ke kw same = (
  subst (KeepsFirst old_edges) (sym e) ke,
  subst (KeepsFirst old_winners) (sym w) kw,
  ap length w ∙ (same ∙ sym (ap length e)),
)
added-keeps start point winner edges winners new_edges new_winners old_edges old_winners (inr (e, w, _, _)) ke kw same =
    let a = ap length e in
    let b = ap length w in
    let m = length-append edges (point ∷ []) in
    let n = length-append winners (winner ∷ []) in
    (keeps-push old_edges edges new_edges point e ke, keeps-push old_winners winners new_winners winner w kw, omega (arith, a, b, m, n, same))

-- ---- the borders of a key

numbers-no_less : (borders : List ℕ) → IsStrictlyIncreasing borders → (i j : ℕ) → i ≤ j → j < length borders → border_number borders i ≤ border_number borders j
numbers-no_less borders r i j h l = let u = rises-no_less borders r i j h l in omega (arith, u)

pub key-borders : (borders : List ℕ) (number from at : ℕ) → IsStrictlyIncreasing borders → ((i : ℕ) → i < from → border_number borders i < number) → ((i : ℕ) → from ≤ i → i < length borders → number ≤ border_number borders i) → from ≤ at → at ≤ length borders
    → ((i : ℕ) → from ≤ i → i < at → border_number borders i ≡ number) → (at < length borders → border_number borders at ≢ number) → AreKeyBorders borders number from at × ((i : ℕ) → at ≤ i → i < length borders → number + 1 ≤ border_number borders i)
key-borders borders number from at r before behind order within own stop =
    let past : (i : ℕ) → at ≤ i → i < length borders → number + 1 ≤ border_number borders i = λ i h l.
    let b = behind at order (omega (arith, h, l)) in
    let s = stop (omega (arith, h, l)) in
    let u = numbers-no_less borders r at i h l in
    let more : number < border_number borders at = elim (cases_eq (border_number borders at) number) [
      | inl e ↦ absurd (s e)
      | inr ne ↦ omega (arith, b, ne)
    ] in
    omega (arith, more, u) in (
      record {
        order = order;
        within = within;
        same = own;
        all = λ i l e. (
          elim (cases_lt i from) [
            | inl less ↦ let u = before i less in absurd (omega (arith, u, e))
            | inr most ↦ most
          ],
          elim (cases_lt i at) [
            | inl less ↦ less
            | inr most ↦ let u = past i most l in absurd (omega (arith, u, e))
          ],
        );
      },
      past,
    )

-- ---- the spans of keys

span-left : (spans : List Span) (span : Span) (i : ℕ) → i < length spans → span_at (spans ++ span ∷ []) i ≡ span_at spans i
span-left spans span i l = get_or_append_left spans (span ∷ []) (record { start = 0; end = 0 }) i l

span-here : (spans : List Span) (span : Span) → span_at (spans ++ span ∷ []) (length spans) ≡ span
span-here spans span =
    let d : Span = record { start = 0; end = 0 } in
    get_or-append_right spans (span ∷ []) (length spans) (length spans) d refl (omega arith) ∙ ap (λ k. get_or (span ∷ []) k d) none
  where
    none : length spans - length spans ≡ 0
    none = omega arith

pub spans-more : (points borders taken : List ℕ) (count : ℕ) (spans new_spans : List Span) (edges winners new_edges new_winners : List ℕ) (from to : ℕ) (span : Span) → AreSpansIn points borders taken count spans edges winners
    → KeepsFirst edges new_edges → KeepsFirst winners new_winners → length new_winners ≡ length new_edges → AreKeyBorders borders count from to → AreEdgesOf points borders taken from to new_edges new_winners (length edges) (length new_edges)
    → span.start ≡ length edges → span.end ≡ length new_edges → new_spans ≡ spans ++ span ∷ [] → AreSpansIn points borders taken (count + 1) new_spans new_edges new_winners
spans-more points borders taken count spans new_spans edges winners new_edges new_winners from to span s ke kw same key are start end is =
    let n = ap length is in
    let m = length-append spans (span ∷ []) in
    let l = s.len in
    let old_same = s.same in
    record {
      len = omega (arith, n, m, l);
      same = same;
      each = λ number less. elim (cases_lt number count) [
        | inl before ↦
            let q = s.each number before in
            let e : span_at new_spans number ≡ span_at spans number = ap (λ (z : List Span). span_at z number) is ∙ span-left spans span number (omega (arith, before, l)) in
            let w = q.within in
            let k = ke.len in
            subst (IsSpanIn points borders taken new_edges new_winners number) (sym e) (record {
              from = q.from;
              to = q.to;
              within = omega (arith, w, k);
              borders_are = q.borders_are;
              edges_are = edges-kept points borders taken q.from q.to edges winners new_edges new_winners (span_at spans number).start (span_at spans number).end (λ i h. ke.same i (omega (arith, h, w)))
                  (λ i h. kw.same i (omega (arith, h, w, old_same))) q.edges_are;
            })
        | inr most ↦
            let c : count ≡ number = omega (arith, most, less) in
            let e : span_at new_spans count ≡ span =
            ap (λ (z : List Span). span_at z count) is ∙ (ap (λ k. span_at (spans ++ span ∷ []) k) (sym l) ∙ span-here spans span) in
            subst (λ k. IsSpanIn points borders taken new_edges new_winners k (span_at new_spans k)) c
            (subst (IsSpanIn points borders taken new_edges new_winners count) (sym e) (record {
              from = from;
              to = to;
              within = omega (arith, end);
              borders_are = key;
              edges_are = subst (λ k. AreEdgesOf points borders taken from to new_edges new_winners k span.end) (sym start) (subst (λ k. AreEdgesOf points borders taken from to new_edges new_winners (length edges) k) (sym end) are);
            }))
      ];
    }
