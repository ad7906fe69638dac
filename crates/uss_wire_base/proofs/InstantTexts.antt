-- The text of an instant is that of the date and time of day that a clock in UTC shows.
use Rattle.std.proofs.Common.{◌≡◌, ℕ, ◌+◌, ◌*◌, ◌/◌, ◌%◌, ◌<◌, List, [], ◌∷◌, ◌++◌, refl, sym, ap, ◌∙◌, subst, arith, lit≤, lit<, zero, suc, ℤ, pos, negsuc, neg_ℤ, ◌<ℤ◌, ◌≤ℤ◌, unsigned_abs}
use Rattle.std.proofs.lemmas.Int.{ints}
use Rattle.std.specs.Prelude.{Bool, true, nat_lt}
use Rattle.std.specs.List.{list_all}
use Rattle.std.specs.Str.{IsUtf8, IsAscii}
use Rattle.std.proofs.lemmas.Str.{IsUtf8-from_ascii}
use Rattle.std.proofs.lemmas.Bool.Decides.{nat_tests}
use Rattle.uss_wire_base.proofs.Decimals.{and_left, and_right}
use Rattle.std.specs.Int.{int_rem_euclid}
use Rattle.jiff_core.specs.declared.civil.datetime.DateTime.{DateTime}
use Rattle.jiff_core.specs.Calendar.{IsCivilDate, days_from_civil}
use Rattle.jiff_core.specs.Time.{time_nanos}
use Rattle.jiff_core.specs.DateTime.{civil_nanos}
use Rattle.jiff_core.proofs.SignedLemmas.{signed_arith}
use Rattle.jiff_core.proofs.CalendarLemmas.{days_from_civil-day_count, day_count-lt_year}
use Rattle.jiff_core.proofs.MarchLemmas.{day_count-early}
use Rattle.jiff_core.proofs.DateLemmas.{civil}
use Rattle.jiff_core.proofs.DateTimeLemmas.{epoch_day-civil_nanos, civil_nanos-parts, time_nanos_bound}
use Rattle.uss_wire_base.specs.Writing.{IsSigned64}
use Rattle.uss_wire_base.specs.Instants.{day_number, since_midnight, year_of, month_of}
use Rattle.uss_wire_base.specs.InstantText.{digit, two, four, nine, date_text, time_text, instant_text}
use Rattle.uss_wire_base.proofs.Dates.{year_is, month_is, day_is}

signed_low : (m : ℤ) → IsSigned64 m → neg_ℤ (pos 9_223_372_036_854_775_808) ≤ℤ m
signed_low (pos n) h = omega (arith, ints)
signed_low (negsuc n) h = omega (arith, ints)

positive_unless : (z : ℤ) → (z <ℤ pos 0 → ⊥) → pos 0 ≤ℤ z
positive_unless (pos n) h = omega (arith, ints)
positive_unless (negsuc n) h = absurd (h (omega (arith, ints)))

-- a moment of 64 bits is in no year before 0
year_positive : (dt : DateTime) → IsSigned64 (civil_nanos dt) → pos 0 ≤ℤ dt.date.year
year_positive dt h =
    positive_unless dt.date.year (λ before.
    let low = signed_low (civil_nanos dt) h in
    let count = day_count-lt_year dt.date.year dt.date.month dt.date.day (pos 0) 1 1 (civil dt.date) (lit≤ tt) before in
    let zero = day_count-early (pos 0) 9999 1 1 refl (omega arith) (omega arith) (omega arith) in
    let day = days_from_civil-day_count dt.date.year dt.date.month dt.date.day in
    omega (arith, signed_arith, civil_nanos-parts dt, time_nanos_bound dt.time))

year_pos : (z : ℤ) → pos 0 ≤ℤ z → z ≡ pos (unsigned_abs z)
year_pos (pos n) h = refl
year_pos (negsuc n) h = absurd (omega (arith, ints))

since_is : (dt : DateTime) → since_midnight (civil_nanos dt) ≡ time_nanos dt.time
since_is dt =
    let r : int_rem_euclid (civil_nanos dt) (pos 86_400_000_000_000) ≡ pos (time_nanos dt.time) = omega (arith, signed_arith, civil_nanos-parts dt, time_nanos_bound dt.time) in
    ap unsigned_abs r

pub date_text_is : (y m d : ℕ) → IsCivilDate (pos y) m d → date_text (days_from_civil (pos y) m d) ≡ four y ++ 45 ∷ two m ++ 45 ∷ two d
date_text_is y m d c =
    ap (λ n. four (year_of (days_from_civil (pos y) m d)) ++ 45 ∷ two (month_of (days_from_civil (pos y) m d)) ++ 45 ∷ two n) (day_is y m d c)
    ∙ ap (λ n. four (year_of (days_from_civil (pos y) m d)) ++ 45 ∷ two n ++ 45 ∷ two d) (month_is y m d c)
    ∙ ap (λ n. four n ++ 45 ∷ two m ++ 45 ∷ two d) (year_is y m d c)

pub time_text_is : (h i s n : ℕ) → h < 24 → i < 60 → s < 60 → n < 1_000_000_000 → time_text ((h * 3600 + i * 60 + s) * 1_000_000_000 + n) ≡ two h ++ 58 ∷ two i ++ 58 ∷ two s ++ 46 ∷ nine n
time_text_is h i s n a b c d =
    let t : ℕ = (h * 3600 + i * 60 + s) * 1_000_000_000 + n in
    let hour : t / 3_600_000_000_000 ≡ h = omega arith in
    let minute : t / 60_000_000_000 % 60 ≡ i = omega arith in
    let second : t / 1_000_000_000 % 60 ≡ s = omega arith in
    let nanos : t % 1_000_000_000 ≡ n = omega arith in
    ap (λ k. two k ++ 58 ∷ two (t / 60_000_000_000 % 60) ++ 58 ∷ two (t / 1_000_000_000 % 60) ++ 46 ∷ nine (t % 1_000_000_000)) hour
    ∙ ap (λ k. two h ++ 58 ∷ two k ++ 58 ∷ two (t / 1_000_000_000 % 60) ++ 46 ∷ nine (t % 1_000_000_000)) minute
    ∙ ap (λ k. two h ++ 58 ∷ two i ++ 58 ∷ two k ++ 46 ∷ nine (t % 1_000_000_000)) second
    ∙ ap (λ k. two h ++ 58 ∷ two i ++ 58 ∷ two s ++ 46 ∷ nine k) nanos

-- the text of the parts
abbrev pub parts_text : (y m d h i s n : ℕ) → List ℕ
parts_text y m d h i s n =
    four y ++ 45 ∷ two m ++ 45 ∷ two d ++ 84 ∷ two h ++ 58 ∷ two i ++ 58 ∷ two s ++ 46 ∷ nine n ++ 90 ∷ []

day_is_number : (dt : DateTime) → IsSigned64 (civil_nanos dt) → day_number (civil_nanos dt) ≡ days_from_civil (pos (unsigned_abs dt.date.year)) dt.date.month dt.date.day
day_is_number dt h = sym (epoch_day-civil_nanos dt) ∙ ap (λ z. days_from_civil z dt.date.month dt.date.day) (year_pos dt.date.year (year_positive dt h))

civil_pos : (dt : DateTime) → IsSigned64 (civil_nanos dt) → IsCivilDate (pos (unsigned_abs dt.date.year)) dt.date.month dt.date.day
civil_pos dt h = subst (λ z. IsCivilDate z dt.date.month dt.date.day) (year_pos dt.date.year (year_positive dt h)) (civil dt.date)

pub shown_is : (dt : DateTime) → IsSigned64 (civil_nanos dt) → instant_text (civil_nanos dt) ≡ parts_text (unsigned_abs dt.date.year) dt.date.month dt.date.day dt.time.hour dt.time.minute dt.time.second dt.time.subsec_nanosecond
unfolding instant_text
shown_is dt h =
    let y = unsigned_abs dt.date.year in
    let m = dt.date.month in
    let d = dt.date.day in
    ap (λ day. date_text day ++ 84 ∷ time_text (since_midnight (civil_nanos dt)) ++ 90 ∷ []) (day_is_number dt h)
    ∙ ap (λ n. date_text (days_from_civil (pos y) m d) ++ 84 ∷ time_text n ++ 90 ∷ []) (since_is dt)
    ∙ ap (λ l. l ++ 84 ∷ time_text (time_nanos dt.time) ++ 90 ∷ []) (date_text_is y m d (civil_pos dt h))
    ∙ ap (λ l. four y ++ 45 ∷ two m ++ 45 ∷ two d ++ 84 ∷ l ++ 90 ∷ []) (time_text_is dt.time.hour dt.time.minute dt.time.second dt.time.subsec_nanosecond dt.time.hour_in dt.time.minute_in dt.time.second_in dt.time.subsec_in)

-- ---- the text is ASCII
pub is_ascii : ℕ → Bool
is_ascii b = nat_lt b 128

ascii_here : (b : ℕ) → is_ascii b ≡ true → b < 128
unfolding is_ascii
ascii_here b h = grind (arith, nat_tests)

ascii_from : (bs : List ℕ) → list_all is_ascii bs ≡ true → IsAscii bs
ascii_from [] h i = lit< tt
ascii_from (b ∷ bs) h zero = ascii_here b (and_left (is_ascii b) (list_all is_ascii bs) h)
ascii_from (b ∷ bs) h (suc i) = ascii_from bs (and_right (is_ascii b) (list_all is_ascii bs) h) i

digit_ascii : (n : ℕ) → is_ascii (digit n) ≡ true
unfolding is_ascii
digit_ascii n = let h : n % 10 < 10 = omega arith in grind (arith, nat_tests)

byte_ascii : (is_ascii 45 ≡ true) × (is_ascii 84 ≡ true) × (is_ascii 58 ≡ true) × (is_ascii 46 ≡ true) × (is_ascii 90 ≡ true)
unfolding is_ascii
byte_ascii = (refl, refl, refl, refl, refl)

pub instant_ascii : (m : ℤ) → list_all is_ascii (instant_text m) ≡ true
unfolding instant_text
instant_ascii m = simp (digit_ascii, byte_ascii.0, byte_ascii.1, byte_ascii.2, byte_ascii.3, byte_ascii.4)

pub instant_utf8 : (m : ℤ) → IsUtf8 (instant_text m)
instant_utf8 m = IsUtf8-from_ascii (instant_text m) (ascii_from (instant_text m) (instant_ascii m))
