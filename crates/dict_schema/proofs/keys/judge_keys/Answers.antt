use Rattle.std.proofs.Common.{◌≡◌, length, [], ◌∷◌, ◌++◌, Result, Ok, Err, refl, inl}
use Rattle.dict_schema.specs.declared.fault.DefFault.TheVariants as fault
use Rattle.dict_schema.specs.Judging.{Where, Numbered}
use Rattle.dict_schema.specs.Table.{IsMissingKey, IsDuplicate, LacksOneKey, IsNullableKey}
use Rattle.dict_schema.proofs.Judged.{fails, goes-on, clear-where}
use Rattle.dict_schema.proofs.keys.judge_keys.Goals as goal

pub returns-in_err-judge_each : goal.returns-in_err-judge_each
returns-in_err-judge_each c =
    goes-on (Where fault.NoKey (c.args.d.now.keys ≡ []) ∷ []) ((Numbered fault.KeyMissing (length c.args.d.now.keys) (IsMissingKey c.args.d.now)) ++ ((Numbered fault.DuplicateName (length c.args.d.now.columns) (IsDuplicate c.args.d.now)) ++ ((Where fault.SimpleKeyType (LacksOneKey c.args.d.now) ∷ []) ++ (Numbered fault.KeyType (length c.args.d.now.columns) (IsNullableKey c.args.d.now))))) c.from_residual.result (clear-where fault.NoKey (c.args.d.now.keys ≡ []) (λ none. absurd (cc (c.if-is_empty.ensures.1 none))))
    (fails (Numbered fault.KeyMissing (length c.args.d.now.keys) (IsMissingKey c.args.d.now)) ((Numbered fault.DuplicateName (length c.args.d.now.columns) (IsDuplicate c.args.d.now)) ++ ((Where fault.SimpleKeyType (LacksOneKey c.args.d.now) ∷ []) ++ (Numbered fault.KeyType (length c.args.d.now.columns) (IsNullableKey c.args.d.now)))) c.from_residual.result c.in_err-judge_each.field-0.0 c.from_residual.ensures.1 c.in_err-judge_each.ensures)

pub returns-in_err-judge_each-2 : goal.returns-in_err-judge_each-2
returns-in_err-judge_each-2 c =
    goes-on (Where fault.NoKey (c.args.d.now.keys ≡ []) ∷ []) ((Numbered fault.KeyMissing (length c.args.d.now.keys) (IsMissingKey c.args.d.now)) ++ ((Numbered fault.DuplicateName (length c.args.d.now.columns) (IsDuplicate c.args.d.now)) ++ ((Where fault.SimpleKeyType (LacksOneKey c.args.d.now) ∷ []) ++ (Numbered fault.KeyType (length c.args.d.now.columns) (IsNullableKey c.args.d.now))))) c.from_residual-in_err-judge_each-2.result (clear-where fault.NoKey (c.args.d.now.keys ≡ []) (λ none. absurd (cc (c.if-is_empty.ensures.1 none))))
    (goes-on (Numbered fault.KeyMissing (length c.args.d.now.keys) (IsMissingKey c.args.d.now)) ((Numbered fault.DuplicateName (length c.args.d.now.columns) (IsDuplicate c.args.d.now)) ++ ((Where fault.SimpleKeyType (LacksOneKey c.args.d.now) ∷ []) ++ (Numbered fault.KeyType (length c.args.d.now.columns) (IsNullableKey c.args.d.now)))) c.from_residual-in_err-judge_each-2.result c.in_ok-judge_each.ensures
    (fails (Numbered fault.DuplicateName (length c.args.d.now.columns) (IsDuplicate c.args.d.now)) ((Where fault.SimpleKeyType (LacksOneKey c.args.d.now) ∷ []) ++ (Numbered fault.KeyType (length c.args.d.now.columns) (IsNullableKey c.args.d.now))) c.from_residual-in_err-judge_each-2.result c.in_err-judge_each-2.field-0.0 c.from_residual-in_err-judge_each-2.ensures.1 c.in_err-judge_each-2.ensures))

pub returns-then-lacks_one_key : goal.returns-then-lacks_one_key
returns-then-lacks_one_key c =
    goes-on (Where fault.NoKey (c.args.d.now.keys ≡ []) ∷ []) ((Numbered fault.KeyMissing (length c.args.d.now.keys) (IsMissingKey c.args.d.now)) ++ ((Numbered fault.DuplicateName (length c.args.d.now.columns) (IsDuplicate c.args.d.now)) ++ ((Where fault.SimpleKeyType (LacksOneKey c.args.d.now) ∷ []) ++ (Numbered fault.KeyType (length c.args.d.now.columns) (IsNullableKey c.args.d.now))))) (Err fault.SimpleKeyType) (clear-where fault.NoKey (c.args.d.now.keys ≡ []) (λ none. absurd (cc (c.if-is_empty.ensures.1 none))))
    (goes-on (Numbered fault.KeyMissing (length c.args.d.now.keys) (IsMissingKey c.args.d.now)) ((Numbered fault.DuplicateName (length c.args.d.now.columns) (IsDuplicate c.args.d.now)) ++ ((Where fault.SimpleKeyType (LacksOneKey c.args.d.now) ∷ []) ++ (Numbered fault.KeyType (length c.args.d.now.columns) (IsNullableKey c.args.d.now)))) (Err fault.SimpleKeyType) c.in_ok-judge_each.ensures
    (goes-on (Numbered fault.DuplicateName (length c.args.d.now.columns) (IsDuplicate c.args.d.now)) ((Where fault.SimpleKeyType (LacksOneKey c.args.d.now) ∷ []) ++ (Numbered fault.KeyType (length c.args.d.now.columns) (IsNullableKey c.args.d.now))) (Err fault.SimpleKeyType) c.in_ok-judge_each-2.ensures
    (fails (Where fault.SimpleKeyType (LacksOneKey c.args.d.now) ∷ []) (Numbered fault.KeyType (length c.args.d.now.columns) (IsNullableKey c.args.d.now)) (Err fault.SimpleKeyType) fault.SimpleKeyType refl (inl (refl, c.if-lacks_one_key.ensures.0 refl)))))

pub returns : goal.returns
returns c =
    goes-on (Where fault.NoKey (c.args.d.now.keys ≡ []) ∷ []) ((Numbered fault.KeyMissing (length c.args.d.now.keys) (IsMissingKey c.args.d.now)) ++ ((Numbered fault.DuplicateName (length c.args.d.now.columns) (IsDuplicate c.args.d.now)) ++ ((Where fault.SimpleKeyType (LacksOneKey c.args.d.now) ∷ []) ++ (Numbered fault.KeyType (length c.args.d.now.columns) (IsNullableKey c.args.d.now))))) c.judge_each-3.result (clear-where fault.NoKey (c.args.d.now.keys ≡ []) (λ none. absurd (cc (c.if-is_empty.ensures.1 none))))
    (goes-on (Numbered fault.KeyMissing (length c.args.d.now.keys) (IsMissingKey c.args.d.now)) ((Numbered fault.DuplicateName (length c.args.d.now.columns) (IsDuplicate c.args.d.now)) ++ ((Where fault.SimpleKeyType (LacksOneKey c.args.d.now) ∷ []) ++ (Numbered fault.KeyType (length c.args.d.now.columns) (IsNullableKey c.args.d.now)))) c.judge_each-3.result c.in_ok-judge_each.ensures
    (goes-on (Numbered fault.DuplicateName (length c.args.d.now.columns) (IsDuplicate c.args.d.now)) ((Where fault.SimpleKeyType (LacksOneKey c.args.d.now) ∷ []) ++ (Numbered fault.KeyType (length c.args.d.now.columns) (IsNullableKey c.args.d.now))) c.judge_each-3.result c.in_ok-judge_each-2.ensures
    (goes-on (Where fault.SimpleKeyType (LacksOneKey c.args.d.now) ∷ []) (Numbered fault.KeyType (length c.args.d.now.columns) (IsNullableKey c.args.d.now)) c.judge_each-3.result (clear-where fault.SimpleKeyType (LacksOneKey c.args.d.now) (λ lacks. absurd (cc (c.if-lacks_one_key.ensures.1 lacks))))
    (c.judge_each-3.ensures))))
