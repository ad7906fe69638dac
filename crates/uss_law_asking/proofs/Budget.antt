-- How many calls an open job may still make in an exchange: by the call that it waits for, the rounds that are left to it, and the
-- references of its round whose flights it hasn't asked for.
use Rattle.std.proofs.Common.{ℕ, zero, suc, ◌+◌, ◌≤◌, ◌<◌, ◌≡◌, ◌⊎◌, inl, inr, not, List, [], ◌∷◌, ◌++◌, length, filter, refl, sym, subst, arith, Option, Some, None}
use Rattle.uss_intent.specs.declared.records.Reference.{Reference}
use Rattle.uss_intent.specs.declared.calls.DssAsk.{DssAsk}
use Rattle.uss_intent.specs.Numbers.{is_one_of}
use Rattle.uss_event.specs.declared.entries.Entry.{Entry}
use Rattle.uss_event.specs.declared.calls.Outgoing.{Outgoing}
use Rattle.uss_event.specs.declared.calls.Outgoing.TheVariants as Goes
use Rattle.uss_event.specs.declared.entries.Opening.{Opening}
use Rattle.uss_law_book.specs.Contents.{trials_of, rounds_of}
use Rattle.uss_law_duty.specs.Answers.{job_of_call}
use Rattle.uss_law_supplier.specs.declared.duties.Awaited.{Awaited}
use Rattle.uss_law_supplier.specs.declared.duties.Awaited.TheVariants as Waits
use Rattle.uss_law_supplier.specs.Values.{Round, awaited_of, round_of}
use Rattle.uss_law_supplier.specs.Calls.{call_of, kind_of}
use Rattle.uss_law_supplier.specs.Turns.{Standing, Turn, dss_call, entered, entering}
use Rattle.uss_law_supplier.specs.Jobs.{making, asking}
use Rattle.uss_law_supplier.proofs.Waits.{awaiting_own, awaiting_round}
use Rattle.uss_law_supplier.proofs.Onward.{IsOpenJob, kind_is}
use Rattle.uss_law_asking.specs.Exchange.{stands_then}

-- what so many rounds cost, where no query finds more than so many references
abbrev pub cost : ℕ → ℕ → ℕ
cost zero n = 0
cost (suc r) n = 2 + n + cost r n

pub cost_up : (r m n : ℕ) → r ≤ m → cost r n ≤ cost m n
cost_up zero m n h = omega arith
cost_up (suc r) zero n h = absurd (omega (arith, h))
cost_up (suc r) (suc m) n h = let e = cost_up r m n (omega (arith, h)) in omega (arith, e)

-- the references whose flights weren't asked for
abbrev pub left : Round → ℕ
left r = length (filter (λ (x : Reference). not (is_one_of x.flight r.asked)) r.found)

-- a round is left after so many attempts, and this much suffices for the rest
abbrev pub Suffices : ℕ → ℕ → ℕ → ℕ → ℕ → Type 0
Suffices n more tried rounds b = (r : ℕ) × (rounds ≡ tried + suc r) × (more + cost r n ≤ b)

-- with the call of this kind so many calls suffice
abbrev pub Allows : ℕ → ℕ → ℕ → ℕ → Awaited → ℕ → Type 0
Allows n unasked tried rounds Waits.TicketPut b = (tried ≡ 0) × (1 ≤ rounds) × (3 + cost rounds n ≤ b)
Allows n unasked tried rounds Waits.Query b = Suffices n (4 + n) tried rounds b
Allows n unasked tried rounds Waits.Details b = Suffices n (4 + unasked) tried rounds b
Allows n unasked tried rounds Waits.Put b = (r : ℕ) × (rounds ≤ tried + r) × (3 + cost r n ≤ b)
Allows n unasked tried rounds Waits.Get b = 1 ≤ b
Allows n unasked tried rounds Waits.TicketRemove b = 2 ≤ b
Allows n unasked tried rounds Waits.Remove b = 1 ≤ b

pub some_allowed : (n unasked tried rounds : ℕ) (kind : Awaited) (b : ℕ) → Allows n unasked tried rounds kind b → 1 ≤ b
some_allowed n unasked tried rounds Waits.TicketPut b h = let l = h.2 in omega (arith, l)
some_allowed n unasked tried rounds Waits.Query b h = let l = h.2 in omega (arith, l)
some_allowed n unasked tried rounds Waits.Details b h = let l = h.2 in omega (arith, l)
some_allowed n unasked tried rounds Waits.Put b h = let l = h.2 in omega (arith, l)
some_allowed n unasked tried rounds Waits.Get b h = h
some_allowed n unasked tried rounds Waits.TicketRemove b h = omega (arith, h)
some_allowed n unasked tried rounds Waits.Remove b h = h

abbrev pub job_in : Outgoing → ℕ
job_in (Goes.Dss call) = call.job
job_in (Goes.Peer call) = job_of_call call

-- an open job waits for the call, and with it so many calls suffice
pub record IsWaiting (n : ℕ) (s : Standing) (o : Opening) (call : Outgoing) (b : ℕ) : Type 0 where
  pub unfinished : IsOpenJob s.book o
  pub waits : awaited_of o.job s.values ≡ Some call
  pub its_job : job_in call ≡ o.job
  pub kind : Awaited
  pub is : kind_of call ≡ Some kind
  pub allows : Allows n (left (round_of o.job s.values)) (length (trials_of o.job s.book)) (rounds_of o.ask.wish) kind b

-- nothing is called, or one call that is waited for, and with it fewer calls suffice
abbrev pub GoesOn : ℕ → Standing → Opening → List Outgoing → ℕ → Type 0
GoesOn n s o sends b = (sends ≡ []) ⊎ ((call : Outgoing) × (c : ℕ) × (sends ≡ call ∷ []) × IsWaiting n s o call c × (c < b))

abbrev pub IsWithin : ℕ → Standing → Opening → Turn → ℕ → Type 0
IsWithin n s o t b = GoesOn n (stands_then s t) o t.sends b

-- a call is made
pub asks : (n : ℕ) (s : Standing) (o : Opening) (kind : Awaited) (c b : ℕ) → IsOpenJob s.book o → Allows n (left (round_of o.job s.values)) (length (trials_of o.job s.book)) (rounds_of o.ask.wish) kind c → c < b
    → IsWithin n s o (asking s o kind) b
asks n s o kind c b u a l = go (call_of s.owner s.book o kind) refl
  where
    go : (x : Option DssAsk) → call_of s.owner s.book o kind ≡ x → IsWithin n s o (making s o.job x) b
    go None e = inl refl
    go (Some ask) e =
        inr (
          dss_call o.job ask,
          c,
          refl,
          record {
            unfinished = u;
            waits = awaiting_own o.job (dss_call o.job ask) s.values;
            its_job = refl;
            kind = kind;
            is = kind_is s.owner s.book o kind ask e;
            allows = subst (λ (r : Round). Allows n (left r) (length (trials_of o.job s.book)) (rounds_of o.ask.wish) kind c) (sym (awaiting_round o.job (dss_call o.job ask) s.values)) a;
          },
          l,
        )

-- and after an entry
pub asks_after : (n : ℕ) (s : Standing) (e : Entry) (o : Opening) (kind : Awaited) (c b : ℕ) → IsOpenJob (s.book ++ e ∷ []) o
    → Allows n (left (round_of o.job s.values)) (length (trials_of o.job (s.book ++ e ∷ []))) (rounds_of o.ask.wish) kind c → c < b → IsWithin n s o (entering s e (λ after. asking after o kind)) b
asks_after n s e o kind c b u a l = go (call_of s.owner (s.book ++ e ∷ []) o kind) refl (asks n (entered s e) o kind c b u a l)
  where
    go : (x : Option DssAsk) → call_of s.owner (s.book ++ e ∷ []) o kind ≡ x → IsWithin n (entered s e) o (making (entered s e) o.job x) b → IsWithin n s o (entering s e (λ after. making after o.job x)) b
    go None q w = inl refl
    go (Some ask) q w = w
