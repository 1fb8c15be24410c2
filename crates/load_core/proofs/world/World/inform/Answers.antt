use Rattle.std.proofs.Common.{◌≡◌, ℕ, ◌<◌, ◌≤◌, List, [], Option, Some, None, length, MatchOption, sym, ◌∙◌, ap, subst, get_or, set, slice_get, slice_set, unwrap_or, arith}
use Rattle.std.proofs.lemmas.List.{set-get_or, set-set}
use Rattle.std.proofs.lemmas.Option.{slice_get-get_or, slice_get_past}
use Rattle.load_core.specs.declared.caller.CallerEvent.{CallerEvent}
use Rattle.load_core.specs.declared.world.WorldCaller.{WorldCaller}
use Rattle.load_core.specs.declared.world.World.{World}
use Rattle.load_core.specs.WorldSteps.{caller_at, with_caller, known_to, knowing}
use Rattle.load_core.proofs.world.World.inform.Goals as goal
use Rattle.load_core.proofs.world.World.inform.Goals.{then-place-len+in_ok-callers, else-place-len}

-- what comes of a world whose callers become these
abbrev Informed : World → ℕ → ℕ → CallerEvent → List (List WorldCaller) → Type 0
Informed w c d event callers =
    MatchOption (caller_at w c d) (record w { callers = callers } ≡ w) (λ u. record w { callers = callers } ≡ with_caller w c d (knowing u event))

-- the callers with the same ones at their places
as_they_are : (w : World) (callers : List (List WorldCaller)) → callers ≡ w.callers → record w { callers = callers } ≡ w
as_they_are w callers e = ap (λ (cs : List (List WorldCaller)). record w { callers = cs }) e

-- no caller is at this place
informed_past : (w : World) (c d : ℕ) (event : CallerEvent) (callers : List (List WorldCaller)) → callers ≡ w.callers → length w.callers ≤ c → Informed w c d event callers
informed_past w c d event callers e l =
    let none : known_to w c ≡ [] = ap (λ (o : Option (List WorldCaller)). unwrap_or o []) (slice_get_past w.callers c l) in
    let P : List WorldCaller → Type 0 = λ known. MatchOption (slice_get known d) (record w { callers = callers } ≡ w) (λ u. record w { callers = callers } ≡ with_caller w c d (knowing u event)) in
    subst P (sym none) (as_they_are w callers e)

-- the caller at this place knows these
informed_here : (w : World) (c d : ℕ) (event : CallerEvent) (known other after : List WorldCaller) → c < length w.callers → known ≡ get_or w.callers c known → MatchOption (slice_get known d) (after ≡ known) (λ u. after ≡ slice_set known d (knowing u event)) → Informed w c d event (set (set w.callers c other) c after)
informed_here w c d event known other after l e h = subst P (sym is) (go (slice_get known d) h)
  where
    is : known_to w c ≡ known
    is =
        ap (λ (o : Option (List WorldCaller)). unwrap_or o []) (slice_get-get_or w.callers c known l) ∙ sym e

    same : set (set w.callers c other) c after ≡ set w.callers c after
    same = set-set w.callers c other after

    P : List WorldCaller → Type 0
    P k =
        MatchOption (slice_get k d) (record w { callers = set (set w.callers c other) c after } ≡ w) (λ u. record w { callers = set (set w.callers c other) c after } ≡ record w { callers = set w.callers c (set k d (knowing u event)) })

    go : (o : Option WorldCaller) → MatchOption o (after ≡ known) (λ u. after ≡ slice_set known d (knowing u event)) → MatchOption o (record w { callers = set (set w.callers c other) c after } ≡ w) (λ u. record w { callers = set (set w.callers c other) c after } ≡ record w { callers = set w.callers c (set known d (knowing u event)) })
    go None k =
        as_they_are w (set (set w.callers c other) c after) (same ∙ ap (set w.callers c) (k ∙ e) ∙ set-get_or w.callers c known)
    go (Some u) k =
        ap (λ (cs : List (List WorldCaller)). record w { callers = cs }) (same ∙ ap (set w.callers c) k)

informed_at : (w : World) (c d : ℕ) (event : CallerEvent) (items : List (List WorldCaller)) (known given other after : List WorldCaller) (callers : List (List WorldCaller)) → items ≡ w.callers → c < length items → known ≡ get_or items c known → given ≡ known → MatchOption (slice_get given d) (after ≡ given) (λ u. after ≡ slice_set given d (knowing u event)) → callers ≡ set (set items c other) c after → Informed w c d event callers
informed_at w c d event items known given other after callers e l k g h r =
    let A : List WorldCaller → Type 0 = λ ks. MatchOption (slice_get ks d) (after ≡ ks) (λ u. after ≡ slice_set ks d (knowing u event)) in
    subst (Informed w c d event) (sym (r ∙ ap (λ (cs : List (List WorldCaller)). set (set cs c other) c after) e))
    (informed_here w c d event known other after (subst (λ (cs : List (List WorldCaller)). c < length cs) e l) (subst (λ (cs : List (List WorldCaller)). known ≡ get_or cs c known) e k) (subst A g h))

pub returns : goal.returns
returns c =
    let items = c.into_vec-callers.ensures in
    elim c.if-place-len.branch [
      | then-place-len+in_ok-callers w ↦ informed_at c.args.self c.args.c c.args.d c.args.event c.into_vec-callers.result.items w.index_mut.result.now w.replace-known.result w.replace-known.new.dest w.in_ok-callers.field-0 c.from_vec.result items (omega (arith, c.into_vec-callers.result.ok.0)) w.index_mut.ensures.value w.replace-known.ensures.value w.in_ok-callers.ensures (c.from_vec.ensures ∙ ap (λ v. v.items) w.callers-is)
      | else-place-len w ↦ informed_past c.args.self c.args.c c.args.d c.args.event c.from_vec.result (c.from_vec.ensures ∙ ap (λ v. v.items) w.callers-is ∙ items) (omega (arith, c.into_vec-callers.result.ok.0, ap length items))
    ]
