-- Lookups by key, and calls of functions: what follows from what their desk answered.
use Rattle.std.proofs.Common.{◌≡◌, ◌≤◌, ◌∙◌, ℕ, List, [], ◌∷◌, Some, Result, Ok, Err}
use Rattle.std.proofs.Common.{length, arith, refl, sym, subst, inl, inr}
use Rattle.std.proofs.lemmas.Slice.Zip.{AllZip-long}
use Rattle.std.specs.Prelude.{slice_get}
use Rattle.cache_layout.specs.Fetching.{key_types}
use Rattle.dict_functions.proofs.AskedLines.{few-lines}
use Rattle.dict_functions.specs.Asking.{IsAsked}
use Rattle.dict_functions.specs.Calls.{AnswersCall, AreCallArguments, AreGiven, argument_types}
use Rattle.dict_functions.specs.Keyed.{AnswersKeyed, AreFetched, AreKeys}
use Rattle.dict_functions.specs.Keys.{ReadsAs}
use Rattle.dict_schema.specs.declared.definition.Definition.{Definition}
use Rattle.dict_schema.specs.declared.definition.FunctionDef.{FunctionDef}
use Rattle.dict_schema.specs.declared.definition.Item.{Item}
use Rattle.dict_schema.specs.declared.definition.Item.TheVariants.{Dictionary, Function}
use Rattle.dict_session.proofs.Acting.{moved_called, moved_keyed, moved_none}
use Rattle.dict_session.proofs.Answering.{which_reply}
use Rattle.dict_session.proofs.Telling.{tells_called, tells_keyed, tells_none}
use Rattle.dict_session.specs.Acts.{Called, Keyed}
use Rattle.dict_session.specs.Answers.{CallAnswers, FetchAnswers}
use Rattle.dict_session.specs.Facts.{EachFetched, EachReturned, Facts, Grows}
use Rattle.dict_session.specs.Items.{IsFunctionItem, IsKeyedItem}
use Rattle.dict_session.specs.Serving.{Answered, Tells}
use Rattle.dict_session.specs.declared.answer.Answer.{Answer}
use Rattle.dict_session.specs.declared.ask.Ask.TheVariants as ask
use Rattle.dict_value.specs.Memory.{UnlessNoMemory}
use Rattle.dict_value.specs.declared.fault.CallFault.{CallFault}
use Rattle.dict_value.specs.declared.fault.FetchFault.{FetchFault}
use Rattle.dict_value.specs.declared.value.FetchedRow.{FetchedRow}
use Rattle.dict_value.specs.declared.value.Value.{Value}
use Rattle.load_core.specs.declared.caller.CallerEvent.TheVariants as event
use Rattle.wire_text.specs.RequestTexts.{Heard}
use Rattle.wire_text.specs.declared.reply.Reply.{Reply}
use Rattle.wire_text.specs.declared.reply.Reply.TheVariants.{Refused}
use Rattle.wire_text.specs.declared.reply.ReplyFault.{ReplyFault}
use Rattle.wire_text.specs.declared.reply.ReplyFault.TheVariants as fault
use Rattle.wire_text.specs.declared.request.Asked.{Asked}
use Rattle.wire_text.specs.declared.request.Request.TheVariants as request

-- ---- one item stands at a place

pub one_definition : (items : List Item) (place : ℕ) (d e : Definition) → slice_get items place ≡ Some (Dictionary d) → IsKeyedItem items place e → d ≡ e
one_definition items place d e here item = let same : Some (Dictionary d) ≡ Some (Dictionary e) = sym here ∙ item.0 in cc

pub one_function : (items : List Item) (place : ℕ) (f g : FunctionDef) → slice_get items place ≡ Some (Function f) → IsFunctionItem items place g → f ≡ g
one_function items place f g here item = let same : Some (Function f) ≡ Some (Function g) = sym here ∙ item in cc

-- ---- as many keys, or rows of arguments, as lines

pub few_keys : (d : Definition) (q : Asked) (keys : List (List Value)) → IsAsked q → AreKeys d q (Ok keys) → length keys ≤ 4294967295
few_keys d q keys asked are = omega (arith, few-lines q asked, AllZip-long (ReadsAs (key_types d)) q.lines keys are.1.read)

pub few_rows : (f : FunctionDef) (q : Asked) (rows : List (List Value)) → IsAsked q → AreCallArguments f q (Ok rows) → length rows ≤ 4294967295
few_rows f q rows asked are = omega (arith, few-lines q asked, AllZip-long (ReadsAs (argument_types f)) q.lines rows are.read)

fitting : (gave : Definition → List Value → _ → ℕ → Type 0) (d : Definition) (now : ℕ) (keys : List (List Value)) (rows : List FetchedRow)
    → EachFetched gave d now keys rows → AreFetched d keys rows
fitting gave d now [] [] each = each
fitting gave d now (key ∷ keys) (row ∷ rows) each = (each.0.fits, fitting gave d now keys rows each.1)
fitting gave d now (key ∷ keys) [] each = each
fitting gave d now [] (row ∷ rows) each = each

module _ {S : Type 0} (facts : Facts S) where
  -- ---- a lookup by key

  module _ (s : S) (items : List Item) (d : ℕ) (q : Asked) (now : ℕ) (result : Result (List (List Value)) ReplyFault)
      (same : items ≡ facts.items s)
      (fits : (e : Definition) → IsKeyedItem items d e → UnlessNoMemory (Err fault.NoMemory) result (AreKeys e q result))
      (keyed : (definition : Definition) × IsKeyedItem (facts.items s) d definition) where
    are_keys : (given : Result (List (List Value)) ReplyFault) → result ≡ given → UnlessNoMemory (Err fault.NoMemory) given (AreKeys keyed.0 q given)
    are_keys given is = subst (λ r. UnlessNoMemory (Err fault.NoMemory) r (AreKeys keyed.0 q r)) is
        (fits keyed.0 (subst (λ z. IsKeyedItem z d keyed.0) (sym same) keyed.1))

    ok_keys : (keys : List (List Value)) → result ≡ Ok keys → AreKeys keyed.0 q (Ok keys)
    ok_keys keys is = are_keys (Ok keys) is (λ e. cc)

    pub fetch_refused : (refusal : ReplyFault) (answer : Answer) → result ≡ Err refusal → answer.event ≡ event.Told 0
        → answer.reply ≡ Refused refusal → Answered facts s (Heard.asks (request.Asked q)) (ask.Fetch d) now answer s
    fetch_refused refusal answer is told reply = record {
      calls = [];
      moved = moved_none facts s;
      answers = elim (which_reply answer.reply) [
        | inl none ↦ inr (none, inl refl)
        | inr other ↦ inl (keyed.0, q, keyed.1, refl, FetchAnswers.refused refusal (are_keys (Err refusal) is (λ e. other (cc (reply, e)))) refl reply)
      ];
      tells = subst (Tells [] answer.place) (sym told) (tells_none answer.place);
    }

    pub few_sent : (keys sent : List (List Value)) → IsAsked q → result ≡ Ok keys → sent ≡ keys → length sent ≤ 4294967295
    few_sent keys sent asked is e = subst (λ z. length z ≤ 4294967295) (sym e) (few_keys keyed.0 q keys asked (ok_keys keys is))

    module _ (t : S) (keys sent : List (List Value)) (is : result ≡ Ok keys) (e : sent ≡ keys) (g : Grows facts s t) where
      pub fetch_failed : (why : FetchFault) (answer : Answer) → facts.did s (Keyed d now sent (Err why)) t → answer.event ≡ event.Told 0
          → answer.reply ≡ Refused (fault.Fetch why) → Answered facts s (Heard.asks (request.Asked q)) (ask.Fetch d) now answer t
      fetch_failed why answer did told reply = record {
        calls = Keyed d now sent (Err why) ∷ [];
        moved = moved_keyed facts s t d now sent (Err why) did g (λ definition item. tt);
        answers = inl (keyed.0, q, keyed.1, refl, FetchAnswers.failed sent why (subst (λ z. AreKeys keyed.0 q (Ok z)) (sym e) (ok_keys keys is)) refl reply);
        tells = subst (Tells (Keyed d now sent (Err why) ∷ []) answer.place) (sym told) (tells_keyed d now answer.place sent (Err why));
      }

      -- the rows are those that a fetch promises for the keys
      pub fetched_rows : (rows : List FetchedRow) (later : List Item) → later ≡ facts.items t
          → ((definition : Definition) → IsKeyedItem (facts.items s) d definition → EachFetched facts.gave definition now sent rows)
          → (definition : Definition) → IsKeyedItem later d definition → (k : List (List Value)) × AreKeys definition q (Ok k) × AreFetched definition k rows
      fetched_rows rows later there each definition item =
          let here = subst (λ z. IsKeyedItem z d definition) (there ∙ g.items) item in
          let one = one_definition (facts.items s) d keyed.0 definition keyed.1.0 here in (
            sent,
            subst (λ z. AreKeys z q (Ok sent)) one (subst (λ z. AreKeys keyed.0 q (Ok z)) (sym e) (ok_keys keys is)),
            fitting facts.gave definition now sent rows (each definition here),
          )

      pub fetch_answered : (rows : List FetchedRow) (later : List Item) (answer : Answer) (reply : Reply) → facts.did s (Keyed d now sent (Ok rows)) t
          → ((definition : Definition) → IsKeyedItem (facts.items s) d definition → EachFetched facts.gave definition now sent rows)
          → later ≡ facts.items t
          → ((definition : Definition) → IsKeyedItem later d definition → UnlessNoMemory (Refused fault.NoMemory) reply (AnswersKeyed definition q now rows reply))
          → answer.event ≡ event.Told 0 → answer.reply ≡ reply → Answered facts s (Heard.asks (request.Asked q)) (ask.Fetch d) now answer t
      fetch_answered rows later answer reply did each there made told replied = record {
        calls = Keyed d now sent (Ok rows) ∷ [];
        moved = moved_keyed facts s t d now sent (Ok rows) did g each;
        answers = elim (which_reply answer.reply) [
          | inl none ↦ inr (none, inr (inr (sent, Ok rows, refl)))
          | inr other ↦ inl (
            keyed.0,
            q,
            keyed.1,
            refl,
            FetchAnswers.fetched sent rows (subst (λ z. AreKeys keyed.0 q (Ok z)) (sym e) (ok_keys keys is)) refl
                (subst (λ z. AnswersKeyed keyed.0 q now rows z) (sym replied)
                (made keyed.0 (subst (λ z. IsKeyedItem z d keyed.0) (sym (there ∙ g.items)) keyed.1) (λ none. other (replied ∙ none)))),
          )
        ];
        tells = subst (Tells (Keyed d now sent (Ok rows) ∷ []) answer.place) (sym told) (tells_keyed d now answer.place sent (Ok rows));
      }

  -- ---- a call of a function

  module _ (s : S) (items : List Item) (f : ℕ) (q : Asked) (now : ℕ) (result : Result (List (List Value)) ReplyFault)
      (same : items ≡ facts.items s)
      (fits : (e : FunctionDef) → IsFunctionItem items f e → UnlessNoMemory (Err fault.NoMemory) result (AreCallArguments e q result))
      (function : (definition : FunctionDef) × IsFunctionItem (facts.items s) f definition) where
    are_rows : (given : Result (List (List Value)) ReplyFault) → result ≡ given → UnlessNoMemory (Err fault.NoMemory) given (AreCallArguments function.0 q given)
    are_rows given is = subst (λ r. UnlessNoMemory (Err fault.NoMemory) r (AreCallArguments function.0 q r)) is
        (fits function.0 (subst (λ z. IsFunctionItem z f function.0) (sym same) function.1))

    ok_rows : (rows : List (List Value)) → result ≡ Ok rows → AreCallArguments function.0 q (Ok rows)
    ok_rows rows is = are_rows (Ok rows) is (λ e. cc)

    pub call_refused : (refusal : ReplyFault) (answer : Answer) → result ≡ Err refusal → answer.event ≡ event.Told 0
        → answer.reply ≡ Refused refusal → Answered facts s (Heard.asks (request.Asked q)) (ask.Apply f) now answer s
    call_refused refusal answer is told reply = record {
      calls = [];
      moved = moved_none facts s;
      answers = elim (which_reply answer.reply) [
        | inl none ↦ inr (none, inl refl)
        | inr other ↦ inl (function.0, q, function.1, refl, CallAnswers.refused refusal (are_rows (Err refusal) is (λ e. other (cc (reply, e)))) refl reply)
      ];
      tells = subst (Tells [] answer.place) (sym told) (tells_none answer.place);
    }

    pub few_called : (rows sent : List (List Value)) → IsAsked q → result ≡ Ok rows → sent ≡ rows → length sent ≤ 4294967295
    few_called rows sent asked is e = subst (λ z. length z ≤ 4294967295) (sym e) (few_rows function.0 q rows asked (ok_rows rows is))

    -- the arguments are some that the function can be sent, whichever it is that stands there
    pub sent_rows : (rows sent : List (List Value)) → result ≡ Ok rows → sent ≡ rows → AreCallArguments function.0 q (Ok sent)
    sent_rows rows sent is e = subst (λ z. AreCallArguments function.0 q (Ok z)) (sym e) (ok_rows rows is)

    module _ (t : S) (rows sent : List (List Value)) (is : result ≡ Ok rows) (e : sent ≡ rows) (g : Grows facts s t) where
      pub call_failed : (why : CallFault) (answer : Answer) → facts.did s (Called f sent (Err why)) t → answer.event ≡ event.Told 0
          → answer.reply ≡ Refused (fault.Call why) → Answered facts s (Heard.asks (request.Asked q)) (ask.Apply f) now answer t
      call_failed why answer did told reply = record {
        calls = Called f sent (Err why) ∷ [];
        moved = moved_called facts s t f sent (Err why) did g (λ definition item. tt);
        answers = inl (function.0, q, function.1, refl, CallAnswers.failed sent why (sent_rows rows sent is e) refl reply);
        tells = subst (Tells (Called f sent (Err why) ∷ []) answer.place) (sym told) (tells_called f answer.place sent (Err why));
      }

      pub given_values : (values : List Value) (later : List Item) → later ≡ facts.items t
          → ((definition : FunctionDef) → IsFunctionItem (facts.items s) f definition → EachReturned definition sent values)
          → (definition : FunctionDef) → IsFunctionItem later f definition → (k : List (List Value)) × AreCallArguments definition q (Ok k) × AreGiven definition k values
      given_values values later there each definition item =
          let here = subst (λ z. IsFunctionItem z f definition) (there ∙ g.items) item in
          let one = one_function (facts.items s) f function.0 definition function.1 here in
          (sent, subst (λ z. AreCallArguments z q (Ok sent)) one (sent_rows rows sent is e), each definition here)

      pub call_answered : (values : List Value) (later : List Item) (answer : Answer) (reply : Reply) → facts.did s (Called f sent (Ok values)) t
          → ((definition : FunctionDef) → IsFunctionItem (facts.items s) f definition → EachReturned definition sent values)
          → later ≡ facts.items t
          → ((definition : FunctionDef) → IsFunctionItem later f definition → UnlessNoMemory (Refused fault.NoMemory) reply (AnswersCall definition q values reply))
          → answer.event ≡ event.Told 0 → answer.reply ≡ reply → Answered facts s (Heard.asks (request.Asked q)) (ask.Apply f) now answer t
      call_answered values later answer reply did each there made told replied = record {
        calls = Called f sent (Ok values) ∷ [];
        moved = moved_called facts s t f sent (Ok values) did g each;
        answers = elim (which_reply answer.reply) [
          | inl none ↦ inr (none, inr (inr (sent, Ok values, refl)))
          | inr other ↦ inl (
            function.0,
            q,
            function.1,
            refl,
            CallAnswers.given sent values (sent_rows rows sent is e) refl
                (subst (λ z. AnswersCall function.0 q values z) (sym replied)
                (made function.0 (subst (λ z. IsFunctionItem z f function.0) (sym (there ∙ g.items)) function.1) (λ none. other (replied ∙ none)))),
          )
        ];
        tells = subst (Tells (Called f sent (Ok values) ∷ []) answer.place) (sym told) (tells_called f answer.place sent (Ok values));
      }
