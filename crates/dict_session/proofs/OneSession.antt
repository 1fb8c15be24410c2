-- A session over a desk whose acts are one is one.
use Rattle.std.proofs.Common.{◌≡◌, ◌≢◌, ◌<◌, ◌≤◌, ◌+◌, ◌⊎◌, ◌++◌, ◌∙◌, ℕ, zero, suc, List, [], ◌∷◌, Bool, true, false, Option, Some, None, Result, Ok, Err, length, map}
use Rattle.std.proofs.Common.{append_assoc, append-nil, refl, sym, ap, subst, inl, inr, arith, slice_get}
use Rattle.std.specs.List.{AllByRecursion}
use Rattle.std.specs.Io.KnownBytes.{append_known, prepend_known}
use Rattle.std.proofs.lemmas.Option.{none-some, same_Some}
use Rattle.dict_io.specs.Links.{Ends}
use Rattle.dict_schema.specs.declared.definition.Item.{Item}
use Rattle.dict_functions.proofs.OneAnswer.{seen-once}
use Rattle.dict_schema.specs.Sound.{IsSound}
use Rattle.dict_schema.specs.declared.definition.Definition.{Definition}
use Rattle.dict_schema.specs.declared.definition.FunctionDef.{FunctionDef}
use Rattle.dict_session.proofs.OneAsk.{ask_once}
use Rattle.dict_session.proofs.OneList.{HasHeard, ends_once, requests_once, stood_of}
use Rattle.dict_session.specs.Acts.{DeskCall, Before, Configured, Entered, Leads, Moment, Reloaded, Taught}
use Rattle.dict_session.specs.Answers.{FollowsFrom, IsServed, LooksUp, asked_in, config_reply, load_reply, no_memory, reach_reply, shown_reply, status_reply}
use Rattle.dict_session.specs.Facts.{Facts}
use Rattle.dict_session.specs.Found.{AllFound, AreFullyLoaded, AreOne, IsByInput, IsFoundAct, IsSameCall, SawSound, heards}
use Rattle.dict_session.specs.Items.{IsFunctionItem, IsKeyedItem}
use Rattle.dict_session.specs.Session.{SessionEnds, Exchange, IsServedIn, IsEnd, acts_of, all_acts, bytes, heard_in, place, texts}
use Rattle.dict_session.specs.declared.ask.Ask.{Ask}
use Rattle.dict_session.specs.declared.ask.Ask.TheVariants as ask
use Rattle.dict_session.specs.declared.desk.ConfigEnd.{ConfigEnd}
use Rattle.dict_session.specs.declared.desk.ConfigEnd.TheVariants as config
use Rattle.dict_session.specs.declared.session.SessionEnd.{SessionEnd}
use Rattle.dict_session.specs.declared.session.SessionEnd.TheVariants as end
use Rattle.dict_version.specs.Contents.{Contents}
use Rattle.loader.specs.declared.answers.LoadEnd.{LoadEnd}
use Rattle.loader.specs.declared.answers.LoadEnd.TheVariants as load
use Rattle.loader.specs.declared.answers.StatusRow.{StatusRow}
use Rattle.version_slot.specs.Views.{Entered as Seen}
use Rattle.version_slot.specs.declared.seen.EnterFault.{EnterFault}
use Rattle.version_slot.specs.declared.seen.EnterFault.TheVariants as enter
use Rattle.wire_text.specs.Replies.{reply_text}
use Rattle.wire_text.specs.declared.reply.Reply.{Reply}
use Rattle.wire_text.specs.declared.request.Asked.{Asked}
use Rattle.load_core.specs.declared.caller.CallerCore.{CallerCore}
use Rattle.wire_text.specs.RequestTexts.{Heard}

-- ---- what was heard

has_by : (items : List Item) (x : Exchange) (heard : Option Heard) → heard_in x.asking ≡ heard → x.reply ≢ no_memory → IsServed items heard x.now x.calls x.reply → HasHeard x
has_by items x (Some h) e found served = (h, e)
has_by items x None e found served = absurd (found served.0)

pub all_heard : (items : List Item) (xs : List Exchange) → AllFound xs → AllByRecursion (IsServedIn items) xs → AllByRecursion HasHeard xs
all_heard items [] found answered = tt
all_heard items (x ∷ xs) found answered =
    (has_by items x (heard_in x.asking) refl found.0 answered.0, all_heard items xs found.1 answered.1)

-- what is left is told where what stood next was
left_known : (known : Option (List ℕ)) (read tail input : List ℕ) → Some input ≡ prepend_known read (prepend_known tail known) → (l : List ℕ) × (known ≡ Some l) × (read ++ (tail ++ l) ≡ input)
left_known None read tail input e = absurd (none-some input (sym e))
left_known (Some l) read tail input e = (l, refl, sym (same_Some input (read ++ (tail ++ l)) e))

module _ {S : Type 0} (facts : Facts S) where
  what_is_left : (s t : S) (old new : Ends) (ended : SessionEnd) (cores later : List CallerCore) (input : List ℕ) (a : SessionEnds facts s (place [] old) ended t new cores later) → old.reads.known ≡ Some input
      → (l : List ℕ) × (new.reads.known ≡ Some l) × (bytes a.run.exchanges ++ (a.tail ++ l) ≡ input)
  what_is_left s t old new ended cores later input a known =
      left_known new.reads.known (bytes a.run.exchanges) a.tail input
      (sym (ap (prepend_known []) known) ∙ a.run.read)

  pub heard_once : (s t u v : S) (old new before after : Ends) (ended other : SessionEnd) (cores later kept left : List CallerCore) (input : List ℕ)
      (a : SessionEnds facts s (place [] old) ended t new cores later) (b : SessionEnds facts u (place [] before) other v after kept left)
      → old.reads.known ≡ Some input → before.reads.known ≡ Some input → IsByInput ended → IsByInput other → AllFound a.run.exchanges → AllFound b.run.exchanges
      → (heards a.run.exchanges ≡ heards b.run.exchanges) × (ended ≡ other)
  heard_once s t u v old new before after ended other cores later kept left input a b known told by also found all =
      let l = what_is_left s t old new ended cores later input a known in
      let k = what_is_left u v before after other kept left input b told in
      let heard = all_heard (facts.items s) a.run.exchanges found a.run.answered in
      let others = all_heard (facts.items u) b.run.exchanges all b.run.answered in
      let first = stood_of ended a.run.exchanges a.run.out a.run.closing a.tail l.0 new.reads.known by l.1 a.requests heard a.is in
      let second = stood_of other b.run.exchanges b.run.out b.run.closing b.tail k.0 after.reads.known also k.1 b.requests others b.is in
      let same = requests_once a.run.exchanges b.run.exchanges (a.tail ++ l.0) (b.tail ++ k.0) first second (l.2 ∙ sym k.2) in (
        same.0,
        ends_once ended other a.run.exchanges b.run.exchanges a.run.out a.run.closing a.tail l.0 b.run.out b.run.closing b.tail k.0 new.reads.known after.reads.known
            by also l.1 k.1 heard others same.0 same.1 a.is b.is,
      )

-- ---- what was answered

looks_once : (q : Option Asked) (answer : Result (Seen Contents) EnterFault) (a b : Reply) → SawSound answer → LooksUp q answer a → LooksUp q answer b → a ≡ b
looks_once (Some q) (Ok seen) a b sound p r = seen-once seen q a b sound p r
looks_once (Some q) (Err refusal) a b sound p r = p ∙ sym r
looks_once None answer a b sound p r = absurd p

entered_same : (d : ℕ) (a b : Result (Seen Contents) EnterFault) → Entered d a ≡ Entered d b → a ≡ b
entered_same d a b e = cc

reloaded_same : (d now : ℕ) (a b : LoadEnd) → Reloaded d now a ≡ Reloaded d now b → a ≡ b
reloaded_same d now a b e = cc

taught_same : (d : ℕ) (a b : StatusRow) → Taught d a ≡ Taught d b → a ≡ b
taught_same d a b e = cc

configured_same : (now : ℕ) (a b : ConfigEnd) → Configured now a ≡ Configured now b → a ≡ b
configured_same now a b e = cc

moment_same : (a b : ℕ) → Moment a ≡ Moment b → a ≡ b
moment_same a b e = cc

-- memory was found for an answer where it was found for the reply
found_looked : (d : ℕ) (q : Option Asked) (answer : Result (Seen Contents) EnterFault) (a : Reply) → a ≢ no_memory → LooksUp q answer a → IsFoundAct (Entered d answer)
found_looked d (Some q) (Ok seen) a found p = tt
found_looked d (Some q) (Err enter.Shut) a found p = tt
found_looked d (Some q) (Err enter.NoMemory) a found p = absurd (found p)
found_looked d None answer a found p = absurd p

found_reached : (d number : ℕ) (answer : Result (Seen Contents) EnterFault) (a : Reply) → a ≢ no_memory → a ≡ reach_reply number answer → IsFoundAct (Entered d answer)
found_reached d number (Ok seen) a found p = tt
found_reached d number (Err enter.Shut) a found p = tt
found_reached d number (Err enter.NoMemory) a found p = absurd (found p)

found_shown : (d : ℕ) (item : Option Item) (answer : Result (Seen Contents) EnterFault) (a : Reply) → a ≢ no_memory → a ≡ shown_reply item answer → IsFoundAct (Entered d answer)
found_shown d item (Ok seen) a found p = tt
found_shown d item (Err enter.Shut) a found p = tt
found_shown d item (Err enter.NoMemory) a found p = absurd (found p)

found_loaded : (d now : ℕ) (answer : LoadEnd) (a : Reply) → a ≢ no_memory → a ≡ load_reply answer → IsFoundAct (Reloaded d now answer)
found_loaded d now (load.Published n) a found p = tt
found_loaded d now (load.Failed why) a found p = tt
found_loaded d now load.NoMemory a found p = absurd (found p)

found_configured : (now : ℕ) (answer : ConfigEnd) (a : Reply) → a ≢ no_memory → a ≡ config_reply answer → IsFoundAct (Configured now answer)
found_configured now config.NoMemory a found p = absurd (found p)
found_configured now (config.Done changed published) a found p = tt
found_configured now config.Unread a found p = tt
found_configured now config.TooLong a found p = tt
found_configured now (config.Refused line place words) a found p = tt
found_configured now (config.Names item) a found p = tt

leads_split : {S : Type 0} (did : S → DeskCall → S → Type 0) (s t : S) (xs ys : List DeskCall) → Leads did s (xs ++ ys) t → (mid : S) × Leads did s xs mid × Leads did mid ys t
leads_split did s t [] ys h = (s, refl, h)
leads_split did s t (act ∷ xs) ys h =
    let rest = leads_split did h.0 t xs ys h.2 in (rest.0, (h.0, h.1, rest.1), rest.2)

-- what was written, by how the session ended
outs_once : (ended : SessionEnd) (xs ys : List Exchange) (out closing tail put closed back : List ℕ) (left still : Option (List ℕ)) → IsByInput ended → texts xs ≡ texts ys → IsEnd ended xs out closing tail left → IsEnd ended ys put closed back still → out ≡ put
outs_once end.Quit xs ys out closing tail put closed back left still by e p q = p.1 ∙ e ∙ sym q.1
outs_once end.Ended xs ys out closing tail put closed back left still by e p q = p.1 ∙ e ∙ sym q.1
outs_once end.LineTooLong xs ys out closing tail put closed back left still by e p q =
    p.1 ∙ ap (λ (t : List ℕ). t ++ closing) e ∙ ap (λ (c : List ℕ). texts ys ++ c) (p.0 ∙ sym q.0) ∙ sym q.1
outs_once end.ReadFault xs ys out closing tail put closed back left still by e p q = absurd by
outs_once end.WriteFault xs ys out closing tail put closed back left still by e p q = absurd by
outs_once end.Spent xs ys out closing tail put closed back left still by e p q = absurd by
outs_once end.NoMemory xs ys out closing tail put closed back left still by e p q = absurd by

-- Over a desk whose acts are one between states that are alike: what is answered is one.
module _ {S : Type 0} (made : S → DeskCall → S → Type 0) (R : S → S → Type 0) (items : List Item)
    (one : (s t u v : S) (a b : DeskCall) → R s u → IsSameCall a b → IsFoundAct a → IsFoundAct b → made s a t → made u b v → (a ≡ b) × R t v)
    (sound : (s t u : S) (d : ℕ) (answer : Result (Seen Contents) EnterFault) → R s u → made s (Entered d answer) t → SawSound answer)
    (unkeyed : (d : ℕ) (definition : Definition) → IsKeyedItem items d definition → ⊥)
    (uncalled : (f : ℕ) (definition : FunctionDef) → IsFunctionItem items f definition → ⊥) where
  none_once : (xs ys : List DeskCall) (s t u v : S) → R s u → Leads made s xs t → Leads made u ys v → xs ≡ [] → ys ≡ [] → R t v
  none_once xs ys s t u v r m n e f =
      let a : t ≡ s = subst (λ l. Leads made s l t) e m in
      let b : v ≡ u = subst (λ l. Leads made u l v) f n in
      subst (λ z. R z v) (sym a) (subst (λ z. R s z) (sym b) r)

  single : (x y : DeskCall) (xs ys : List DeskCall) (s t u v : S) → R s u → Leads made s xs t → Leads made u ys v → xs ≡ x ∷ [] → ys ≡ y ∷ [] → IsSameCall x y → IsFoundAct x → IsFoundAct y → (x ≡ y) × R t v
  single x y xs ys s t u v r m n e f same found again =
      let a : Leads made s (x ∷ []) t = subst (λ l. Leads made s l t) e m in
      let b : Leads made u (y ∷ []) v = subst (λ l. Leads made u l v) f n in
      let k = one s a.0 u b.0 x y r same found again a.1 b.1 in
      (k.0, subst (λ z. R z v) (sym a.2) (subst (λ z. R a.0 z) (sym b.2) k.1))

  saw : (d : ℕ) (answer : Result (Seen Contents) EnterFault) (xs : List DeskCall) (s t u : S) → R s u → Leads made s xs t → xs ≡ Entered d answer ∷ [] → SawSound answer
  saw d answer xs s t u r m e =
      let a : Leads made s (Entered d answer ∷ []) t = subst (λ l. Leads made s l t) e m in
      sound s a.0 u d answer r a.1

  answers_once : (asks : Ask) (heard : Heard) (now : ℕ) (xs ys : List DeskCall) (a b : Reply) (s t u v : S) → R s u → a ≢ no_memory → b ≢ no_memory → Leads made s xs t → Leads made u ys v → FollowsFrom items heard asks now xs a → FollowsFrom items heard asks now ys b → (xs ≡ ys) × (a ≡ b) × R t v
  answers_once (ask.Refuse refusal) heard now xs ys a b s t u v r found again m n (e, p) (f, q) = (e ∙ sym f, p ∙ sym q, none_once xs ys s t u v r m n e f)
  answers_once ask.SayBye heard now xs ys a b s t u v r found again m n (e, p) (f, q) = (e ∙ sym f, p ∙ sym q, none_once xs ys s t u v r m n e f)
  answers_once (ask.Show place) heard now xs ys a b s t u v r found again m n (e, p) (f, q) = (e ∙ sym f, p ∙ sym q, none_once xs ys s t u v r m n e f)
  answers_once (ask.Look d) heard now xs ys a b s t u v r found again m n (answer, e, p) (other, f, q) =
      let k = single (Entered d answer) (Entered d other) xs ys s t u v r m n e f refl (found_looked d (asked_in heard) answer a found p) (found_looked d (asked_in heard) other b again q) in
      let same : answer ≡ other = entered_same d answer other k.0 in (
        e ∙ ap (λ z. z ∷ []) k.0 ∙ sym f,
        looks_once (asked_in heard) answer a b (saw d answer xs s t u r m e) p (subst (λ z. LooksUp (asked_in heard) z b) (sym same) q),
        k.1,
      )
  answers_once (ask.Reach d number) heard now xs ys a b s t u v r found again m n (answer, e, p) (other, f, q) =
      let k = single (Entered d answer) (Entered d other) xs ys s t u v r m n e f refl (found_reached d number answer a found p) (found_reached d number other b again q) in
      (e ∙ ap (λ z. z ∷ []) k.0 ∙ sym f, p ∙ ap (reach_reply number) (entered_same d answer other k.0) ∙ sym q, k.1)
  answers_once (ask.ShowEntered d) heard now xs ys a b s t u v r found again m n (answer, e, p) (other, f, q) =
      let k = single (Entered d answer) (Entered d other) xs ys s t u v r m n e f refl (found_shown d (slice_get items d) answer a found p) (found_shown d (slice_get items d) other b again q) in
      (e ∙ ap (λ z. z ∷ []) k.0 ∙ sym f, p ∙ ap (shown_reply (slice_get items d)) (entered_same d answer other k.0) ∙ sym q, k.1)
  answers_once (ask.Load d) heard now xs ys a b s t u v r found again m n (answer, e, p) (other, f, q) =
      let k = single (Reloaded d now answer) (Reloaded d now other) xs ys s t u v r m n e f (refl, refl) (found_loaded d now answer a found p) (found_loaded d now other b again q) in
      (e ∙ ap (λ z. z ∷ []) k.0 ∙ sym f, p ∙ ap load_reply (reloaded_same d now answer other k.0) ∙ sym q, k.1)
  answers_once (ask.Teach d) heard now xs ys a b s t u v r found again m n (answer, e, p) (other, f, q) =
      let k = single (Taught d answer) (Taught d other) xs ys s t u v r m n e f refl tt tt in
      (e ∙ ap (λ z. z ∷ []) k.0 ∙ sym f, p ∙ ap status_reply (taught_same d answer other k.0) ∙ sym q, k.1)
  answers_once ask.Configure heard now xs ys a b s t u v r found again m n (answer, e, p) (other, f, q) =
      let k = single (Configured now answer) (Configured now other) xs ys s t u v r m n e f refl (found_configured now answer a found p) (found_configured now other b again q) in
      (e ∙ ap (λ z. z ∷ []) k.0 ∙ sym f, p ∙ ap config_reply (configured_same now answer other k.0) ∙ sym q, k.1)
  answers_once (ask.Fetch d) heard now xs ys a b s t u v r found again m n (definition, q, is, of, rest) y = absurd (unkeyed d definition is)
  answers_once (ask.Apply f) heard now xs ys a b s t u v r found again m n (definition, q, is, of, rest) y = absurd (uncalled f definition is)

  served_once : (heard : Option Heard) (now : ℕ) (xs ys : List DeskCall) (a b : Reply) (s t u v : S) → R s u → a ≢ no_memory → b ≢ no_memory → Leads made s xs t → Leads made u ys v → IsServed items heard now xs a → IsServed items heard now ys b → (xs ≡ ys) × (a ≡ b) × R t v
  served_once None now xs ys a b s t u v r found again m n p q = absurd (found p.0)
  served_once (Some h) now xs ys a b s t u v r found again m n (x, p, whole) (y, q, all) =
      let same : x ≡ y = ask_once items h x y p q in
      elim whole [
        | inl one_ ↦ elim all [
          | inl two ↦ answers_once y h now xs ys a b s t u v r found again m n (subst (λ z. FollowsFrom items h z now xs a) same one_) two
          | inr lost ↦ absurd (again lost.0)
        ]
        | inr lost ↦ absurd (found lost.0)
      ]

  exchanges_once : (xs ys : List Exchange) (s t u v : S) → R s u → heards xs ≡ heards ys → AllFound xs → AllFound ys → AllByRecursion (IsServedIn items) xs → AllByRecursion (IsServedIn items) ys → Leads made s (all_acts xs) t → Leads made u (all_acts ys) v
      → (texts xs ≡ texts ys) × (all_acts xs ≡ all_acts ys) × R t v
  exchanges_once [] [] s t u v r e found again p q m n = (refl, refl, subst (λ z. R z v) (sym m) (subst (λ z. R s z) (sym n) r))
  exchanges_once [] (y ∷ ys) s t u v r e found again p q m n = cc
  exchanges_once (x ∷ xs) [] s t u v r e found again p q m n = cc
  exchanges_once (x ∷ xs) (y ∷ ys) s t u v r e found again p q m n =
      let head : heard_in x.asking ≡ heard_in y.asking = cc in
      let tail : heards xs ≡ heards ys = cc in
      let moment = one s m.0 u n.0 (Moment x.now) (Moment y.now) r tt tt tt m.1 n.1 in
      let now : x.now ≡ y.now = moment_same x.now y.now moment.0 in
      let before = one m.0 m.2.0 n.0 n.2.0 (Before x.now) (Before y.now) moment.1 now tt tt m.2.1 n.2.1 in
      let a = leads_split made m.2.0 t x.calls (all_acts xs) m.2.2 in
      let b = leads_split made n.2.0 v y.calls (all_acts ys) n.2.2 in
      let served : IsServed items (heard_in y.asking) y.now x.calls x.reply = subst (λ h. IsServed items h y.now x.calls x.reply) head (subst (λ k. IsServed items (heard_in x.asking) k x.calls x.reply) now p.0) in
      let one_ = served_once (heard_in y.asking) y.now x.calls y.calls x.reply y.reply m.2.0 a.0 n.2.0 b.0 before.1 found.0 again.0 a.1 b.1 served q.0 in
      let rest = exchanges_once xs ys a.0 t b.0 v one_.2 tail found.1 again.1 p.1 q.1 a.2 b.2 in (
        ap (λ z. reply_text z ++ texts xs) one_.1 ∙ ap (λ z. reply_text y.reply ++ z) rest.0,
        ap (λ z. Moment z ∷ (Before z ∷ (x.calls ++ all_acts xs))) now ∙ ap (λ z. Moment y.now ∷ (Before y.now ∷ (z ++ all_acts xs))) one_.0
            ∙ ap (λ z. Moment y.now ∷ (Before y.now ∷ (y.calls ++ z))) rest.1,
        rest.2,
      )

  -- two sessions over one input, from states that are alike
  pub session_once : (facts : Facts S) (s t u v : S) (old new before after : Ends) (ended other : SessionEnd) (cores later kept left : List CallerCore) (input : List ℕ)
      (a : SessionEnds facts s (place [] old) ended t new cores later) (b : SessionEnds facts u (place [] before) other v after kept left)
      → facts.items s ≡ items → facts.items u ≡ items → R s u
      → old.reads.known ≡ Some input → before.reads.known ≡ Some input → IsByInput ended → IsByInput other → AllFound a.run.exchanges → AllFound b.run.exchanges
      → Leads made s (all_acts a.run.exchanges) t → Leads made u (all_acts b.run.exchanges) v
      → (ended ≡ other) × (a.run.out ≡ b.run.out) × (all_acts a.run.exchanges ≡ all_acts b.run.exchanges) × R t v
  session_once facts s t u v old new before after ended other cores later kept left input a b is was r known told by also found all m n =
      let heard = heard_once facts s t u v old new before after ended other cores later kept left input a b known told by also found all in
      let answered = subst (λ l. AllByRecursion (IsServedIn l) a.run.exchanges) is a.run.answered in
      let others = subst (λ l. AllByRecursion (IsServedIn l) b.run.exchanges) was b.run.answered in
      let same = exchanges_once a.run.exchanges b.run.exchanges s t u v r heard.0 found all answered others m n in (
        heard.1,
        outs_once other a.run.exchanges b.run.exchanges a.run.out a.run.closing a.tail b.run.out b.run.closing b.tail new.reads.known after.reads.known also same.0
            (subst (λ z. IsEnd z a.run.exchanges a.run.out a.run.closing a.tail new.reads.known) heard.1 a.is) b.is,
        same.1,
        same.2,
      )

-- acts that are one from equal states
module _ {S : Type 0} (facts : Facts S) (are : AreOne facts) where
  one_from : (s t u v : S) (a b : DeskCall) → s ≡ u → IsSameCall a b → IsFoundAct a → IsFoundAct b → facts.did s a t → facts.did u b v → (a ≡ b) × (t ≡ v)
  one_from s t u v a b e same found again m n = are.one s t v a b same found again m (subst (λ z. facts.did z b v) (sym e) n)

  pub desk_once : (s t v : S) (old new before after : Ends) (ended other : SessionEnd) (cores later kept left : List CallerCore) (input : List ℕ)
      (a : SessionEnds facts s (place [] old) ended t new cores later) (b : SessionEnds facts s (place [] before) other v after kept left)
      → AreFullyLoaded (facts.items s)
      → old.reads.known ≡ Some input → before.reads.known ≡ Some input → IsByInput ended → IsByInput other → AllFound a.run.exchanges → AllFound b.run.exchanges
      → (ended ≡ other) × (a.run.out ≡ b.run.out) × (all_acts a.run.exchanges ≡ all_acts b.run.exchanges) × (t ≡ v)
  desk_once s t v old new before after ended other cores later kept left input a b loaded known told by also found all =
      session_once facts.did (λ p q. p ≡ q) (facts.items s) one_from (λ p q r d answer e m. are.sound p q d answer m) loaded.0 loaded.1
      facts s t s v old new before after ended other cores later kept left input a b refl refl refl known told by also found all a.run.moved.leads b.run.moved.leads
