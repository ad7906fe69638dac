-- That for one supplier, first event and list of replies there is at most one exchange.
use Rattle.std.proofs.Common.{◌≡◌, true, List, [], ◌∷◌, ◌++◌, map, refl, ap, sym, subst, ◌∙◌}
use Rattle.uss_event.specs.declared.events.Said.{Said}
use Rattle.uss_event.specs.declared.events.Said.TheVariants as Says
use Rattle.uss_law_duty.specs.Duties.{says_something}
use Rattle.uss_law_asking.specs.Exchange.{Exchanged, call_in, event_in, turn_of, stands_then, IsExchange, Reply, reply_in, ExchangesAreOne}
use Rattle.uss_law_asking.specs.Exchange.Exchanged.{OfDss, OfPeer}

-- a call and its reply
same_exchanged : (x y : Exchanged) → call_in x ≡ call_in y → reply_in x ≡ reply_in y → x ≡ y
same_exchanged (OfDss c r) (OfDss d q) e h = cc
same_exchanged (OfPeer c r) (OfPeer d q) e h = cc
same_exchanged (OfDss c r) (OfPeer d q) e h = cc
same_exchanged (OfPeer c r) (OfDss d q) e h = cc

pub quiet_or_not : {P : Type 0} (said : Said) → said ≡ Says.Nothing → says_something said ≡ true → P
quiet_or_not said e h = let q : says_something Says.Nothing ≡ true = ap says_something (sym e) ∙ h in cc (q)

none_or_some : {P : Type 0} {X : Type 0} (x : X) (xs ys : List X) → [] ≡ x ∷ xs ++ ys → P
none_or_some x xs ys e = cc (e)

pub exchanges_are_one : ExchangesAreOne
exchanges_are_one s moment event [] [] more ex ey e = refl
exchanges_are_one s moment event [] (y ∷ ys) more ex ey e = quiet_or_not (turn_of s moment event).said ey.0.0 ex.1
exchanges_are_one s moment event (x ∷ xs) [] more ex ey e = none_or_some (reply_in x) (map reply_in xs) more e
exchanges_are_one s moment event (x ∷ xs) (y ∷ ys) more ex ey e =
    let calls : call_in x ≡ call_in y = (let q : call_in x ∷ [] ≡ call_in y ∷ [] = sym ex.0.1 ∙ ey.0.1 in cc (q)) in
    let same : x ≡ y = same_exchanged x y calls (first_of (reply_in y) (reply_in x) (map reply_in ys) (map reply_in xs ++ more) e) in
    let rest : IsExchange (stands_then s (turn_of s moment event)) moment (event_in x) ys = subst (λ (z : Exchanged). IsExchange (stands_then s (turn_of s moment event)) moment (event_in z) ys) (sym same) (ey.0.2, ey.1) in
    let on : xs ≡ ys = exchanges_are_one (stands_then s (turn_of s moment event)) moment (event_in x) xs ys more (ex.0.2, ex.1) rest (rest_of (reply_in y) (reply_in x) (map reply_in ys) (map reply_in xs ++ more) e) in
    ap (λ (z : Exchanged). z ∷ xs) same ∙ ap (λ (zs : List Exchanged). y ∷ zs) on
  where
    first_of : (a b : Reply) (cs ds : List Reply) → a ∷ cs ≡ b ∷ ds → b ≡ a
    first_of a b cs ds q = cc

    rest_of : (a b : Reply) (cs ds : List Reply) → a ∷ cs ≡ b ∷ ds → cs ≡ ds
    rest_of a b cs ds q = cc
