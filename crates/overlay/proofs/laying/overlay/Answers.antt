use Rattle.std.proofs.Common.{◌≡◌, ◌+◌, ◌∙◌, ◌++◌, ℕ, List, ap, sym, subst, length, length-append, take}
use Rattle.std.proofs.lemmas.List.{length-map, map-append}
use Rattle.dict_value.specs.declared.value.Value.{Value}
use Rattle.hashed_layout.specs.KeyTables.{IsKeyTableOf}
use Rattle.overlay.specs.Overlays.{StandOf, keys_of}
use Rattle.overlay.specs.steps.Standing.{StandTo}
use Rattle.overlay.proofs.Standing.{stand-whole}
use Rattle.overlay.proofs.laying.overlay.Goals as goal

pub returns : goal.returns
returns c =
    let keys = c.args.keys in
    let former = c.args.former.now in
    let fresh = c.args.fresh.now in
    let table = c.in_ok-fresh_table.fresh_table in
    let key : List Value → List Value = λ row. take keys row in
    let behind : List (List Value) = c.as_slice-4.result.now in
    let first-keys : c.as_slice-3.result.now ≡ keys_of keys fresh = c.as_slice-3.ensures ∙ c.in_ok-fresh_keys.ensures in
    let table-keys : c.as_slice-2.result.now ≡ keys_of keys fresh = c.as_slice-2.ensures ∙ c.in_ok-fresh_keys.ensures in
    let last-keys : behind ≡ keys_of keys former = c.as_slice-4.ensures ∙ c.in_ok-former_keys.ensures in
    let new : StandTo (keys_of keys fresh ++ behind) (fresh ++ former) (length fresh) c.push_new.new.out.rows = subst (λ (ks : List (List Value)). StandTo (ks ++ behind) (fresh ++ former) (length fresh) c.push_new.new.out.rows) first-keys (c.in_ok-push_new.ensures.stand behind former) in
    let of : IsKeyTableOf (keys_of keys fresh) table.bytes table.entries table.cells.items = subst (λ (ks : List (List Value)). IsKeyTableOf ks table.bytes table.entries table.cells.items) table-keys c.in_ok-fresh_table.ensures in
    let all = c.in_ok-push_former.ensures.stand (keys_of keys fresh) fresh (length-map fresh key) of new in
    let both : keys_of keys fresh ++ behind ≡ keys_of keys (fresh ++ former) = ap (λ (ks : List (List Value)). keys_of keys fresh ++ ks) last-keys ∙ sym (map-append key fresh former) in
    let whole : StandTo (keys_of keys (fresh ++ former)) (fresh ++ former) (length (fresh ++ former)) c.push_former.new.out.rows =
    subst (λ (n : ℕ). StandTo (keys_of keys (fresh ++ former)) (fresh ++ former) n c.push_former.new.out.rows) (sym (length-append fresh former))
    (subst (λ (ks : List (List Value)). StandTo ks (fresh ++ former) (length fresh + length former) c.push_former.new.out.rows) both all) in
    subst (StandOf keys (fresh ++ former)) (sym c.finish.ensures) (stand-whole keys (fresh ++ former) c.push_former.new.out.rows whole)
