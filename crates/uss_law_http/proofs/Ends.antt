-- What comes after the chunks read so far is of one kind.
use Rattle.std.proofs.Common.{◌≡◌, ℕ, ◌+◌, ◌-◌, ◌<◌, ◌≤◌, List, [], ◌∷◌, ◌++◌, length, take, All, refl, sym, ap, ◌∙◌, subst, arith, inl, inr, take_all, append-nil, length-append}
use Rattle.std.proofs.Math.Seq.{take-append-add}
use Rattle.std.proofs.lemmas.List.Elements.{All-head, All-tail}
use Rattle.httparse.specs.Ascii.{crlf_bytes}
use Rattle.httparse.specs.Grammar.{ChunkLine, print_chunk_line, chunk_size, NeverHasChunkLine, LineEnd, Field, print_section, NeverHasSection}
use Rattle.uss_http_request.specs.Pieces.{piece_limit}
use Rattle.uss_http_request.specs.Fields.{body_limit}
use Rattle.uss_http_request.specs.Chunks.{Chunk, IsChunk, chunks_text, body_of, IsLastLine, AreTrailers, IsOpenLine, AreOpenTrailers, HasLineEnd, IsOpenLineEnd, NeverHasLineEnd, HasSizeLine, ChunkFault, no_line, long_line, no_line_end, bad_trailers, long_trailers, IsTooMuch, IsCutOff, in_line, in_data, before_line_end, in_trailers, StopsWhere, IsChunked}
use Rattle.uss_law_http.proofs.One.{same_front, lines, group}

-- what comes: something malformed, a chunk that is too much, the end, the end of the body, or one more chunk
pub data Kind : Type 0 where
  malformed much cut whole next : Kind

pub data Trailing (r : List ℕ) : Type 0 where
  t_never : NeverHasSection (take piece_limit r) → Trailing r
  t_long : piece_limit ≤ length r → AreOpenTrailers (take piece_limit r) → Trailing r
  t_short : length r < piece_limit → AreOpenTrailers r → Trailing r
  t_has : (fields : List Field) (end : LineEnd) (rest : List ℕ) → AreTrailers fields end → r ≡ print_section fields end ++ rest → Trailing r

abbrev pub t_kind : (r : List ℕ) → Trailing r → Kind
t_kind r (t_never a) = malformed
t_kind r (t_long a b) = malformed
t_kind r (t_short a b) = cut
t_kind r (t_has a b c d e) = whole

pub data Ending (q : List ℕ) : Type 0 where
  e_never : NeverHasLineEnd q → Ending q
  e_open : IsOpenLineEnd q → Ending q
  e_has : HasLineEnd q → Ending q

pub data Behind (s : ℕ) (r : List ℕ) : Type 0 where
  d_short : length r < s → Behind s r
  d_end : (bytes q : List ℕ) → length bytes ≡ s → r ≡ bytes ++ q → Ending q → Behind s r

pub data Sized (n s : ℕ) (r : List ℕ) : Type 0 where
  s_much : body_limit < n + s → Sized n s r
  s_zero : s ≡ 0 → Trailing r → Sized n s r
  s_some : 0 < s → n + s ≤ body_limit → Behind s r → Sized n s r

pub data Line (n : ℕ) (b : List ℕ) : Type 0 where
  l_never : NeverHasChunkLine (take piece_limit b) → Line n b
  l_long : piece_limit ≤ length b → IsOpenLine (take piece_limit b) → Line n b
  l_short : length b < piece_limit → IsOpenLine b → Line n b
  l_has : (l : ChunkLine) (r : List ℕ) → HasSizeLine b l r → Sized n (chunk_size l) r → Line n b

abbrev pub e_kind : (q : List ℕ) → Ending q → Kind
e_kind q (e_never a) = malformed
e_kind q (e_open a) = cut
e_kind q (e_has a) = next

abbrev pub d_kind : (s : ℕ) (r : List ℕ) → Behind s r → Kind
d_kind s r (d_short a) = cut
d_kind s r (d_end bytes q a b e) = e_kind q e

abbrev pub s_kind : (n s : ℕ) (r : List ℕ) → Sized n s r → Kind
s_kind n s r (s_much a) = much
s_kind n s r (s_zero a t) = t_kind r t
s_kind n s r (s_some a b d) = d_kind s r d

abbrev pub l_kind : (n : ℕ) (b : List ℕ) → Line n b → Kind
l_kind n b (l_never a) = malformed
l_kind n b (l_long a c) = malformed
l_kind n b (l_short a c) = cut
l_kind n b (l_has l r h s) = s_kind n (chunk_size l) r s

-- of a text of at most 16 KiB at the start, the first 16 KiB begin with it too
front_of : (b text rest : List ℕ) → b ≡ text ++ rest → length text ≤ piece_limit → (more : List ℕ) × (take piece_limit b ≡ text ++ more)
front_of b text rest is within =
    let n : piece_limit ≡ length text + (piece_limit - length text) = omega arith in
    (take (piece_limit - length text) rest, ap (take piece_limit) is ∙ ap (λ (j : ℕ). take j (text ++ rest)) n ∙ take-append-add text rest (piece_limit - length text))

short_is : (b : List ℕ) → length b < piece_limit → take piece_limit b ≡ b
short_is b few = take_all piece_limit b (omega arith)

-- ---- trailers

t_never_open : (front : List ℕ) → NeverHasSection front → AreOpenTrailers front → ⊥
t_never_open front never open_end = never open_end.may.0 open_end.may.1 open_end.may.2 [] open_end.may.3

t_never_has : (r : List ℕ) (fields : List Field) (end : LineEnd) (rest : List ℕ) → NeverHasSection (take piece_limit r) → AreTrailers fields end → r ≡ print_section fields end ++ rest → ⊥
t_never_has r fields end rest never are is =
    let f = front_of r (print_section fields end) rest is are.within in
    never [] fields end f.0 (are.valid, append-nil (take piece_limit r) ∙ f.1)

t_long_has : (r : List ℕ) (fields : List Field) (end : LineEnd) (rest : List ℕ) → AreOpenTrailers (take piece_limit r) → AreTrailers fields end → r ≡ print_section fields end ++ rest → ⊥
t_long_has r fields end rest open_end are is =
    let f = front_of r (print_section fields end) rest is are.within in
    open_end.none fields end f.0 (are.valid, f.1)

one_trailing : (r : List ℕ) (x y : Trailing r) → t_kind r x ≡ t_kind r y
one_trailing r (t_never a) (t_never b) = refl
one_trailing r (t_never a) (t_long b c) = refl
one_trailing r (t_never a) (t_short b c) = absurd (t_never_open (take piece_limit r) a (subst AreOpenTrailers (sym (short_is r b)) c))
one_trailing r (t_never a) (t_has f e w are is) = absurd (t_never_has r f e w a are is)
one_trailing r (t_long a b) (t_never c) = refl
one_trailing r (t_long a b) (t_long c d) = refl
one_trailing r (t_long a b) (t_short c d) = absurd (omega arith)
one_trailing r (t_long a b) (t_has f e w are is) = absurd (t_long_has r f e w b are is)
one_trailing r (t_short a b) (t_never c) = absurd (t_never_open (take piece_limit r) c (subst AreOpenTrailers (sym (short_is r a)) b))
one_trailing r (t_short a b) (t_long c d) = absurd (omega arith)
one_trailing r (t_short a b) (t_short c d) = refl
one_trailing r (t_short a b) (t_has f e w are is) = absurd (b.none f e w (are.valid, is))
one_trailing r (t_has f e w are is) (t_never a) = absurd (t_never_has r f e w a are is)
one_trailing r (t_has f e w are is) (t_long a b) = absurd (t_long_has r f e w b are is)
one_trailing r (t_has f e w are is) (t_short a b) = absurd (b.none f e w (are.valid, is))
one_trailing r (t_has f e w are is) (t_has g h v be at) = refl

-- ---- the CR LF after a chunk

e_never_open : (q : List ℕ) → NeverHasLineEnd q → IsOpenLineEnd q → ⊥
e_never_open q never (inl none) = never crlf_bytes ([], ap (λ (l : List ℕ). l ++ crlf_bytes) none)
e_never_open q never (inr cr) = never (10 ∷ []) ([], ap (λ (l : List ℕ). l ++ 10 ∷ []) cr)

e_never_has : (q : List ℕ) → NeverHasLineEnd q → HasLineEnd q → ⊥
e_never_has q never has = never [] (has.0, append-nil q ∙ has.1)

e_open_has : (q : List ℕ) → IsOpenLineEnd q → HasLineEnd q → ⊥
e_open_has q (inl none) has = absurd (omega (arith, ap length none, ap length has.1, length-append crlf_bytes has.0))
e_open_has q (inr cr) has = absurd (omega (arith, ap length cr, ap length has.1, length-append crlf_bytes has.0))

one_ending : (q : List ℕ) (x y : Ending q) → e_kind q x ≡ e_kind q y
one_ending q (e_never a) (e_never b) = refl
one_ending q (e_never a) (e_open b) = absurd (e_never_open q a b)
one_ending q (e_never a) (e_has b) = absurd (e_never_has q a b)
one_ending q (e_open a) (e_never b) = absurd (e_never_open q b a)
one_ending q (e_open a) (e_open b) = refl
one_ending q (e_open a) (e_has b) = absurd (e_open_has q a b)
one_ending q (e_has a) (e_never b) = absurd (e_never_has q b a)
one_ending q (e_has a) (e_open b) = absurd (e_open_has q b a)
one_ending q (e_has a) (e_has b) = refl

one_behind : (s : ℕ) (r : List ℕ) (x y : Behind s r) → d_kind s r x ≡ d_kind s r y
one_behind s r (d_short a) (d_short b) = refl
one_behind s r (d_short a) (d_end bytes q n is e) = absurd (omega (arith, ap length is, length-append bytes q))
one_behind s r (d_end bytes q n is e) (d_short a) = absurd (omega (arith, ap length is, length-append bytes q))
one_behind s r (d_end bytes q n is e) (d_end other p m at f) =
    let same = same_front bytes other q p (n ∙ sym m) (sym is ∙ at) in
    subst (λ (v : List ℕ). (g : Ending v) → e_kind q e ≡ e_kind v g) same.1 (one_ending q e) f

one_sized : (n s : ℕ) (r : List ℕ) → n ≤ body_limit → (x y : Sized n s r) → s_kind n s r x ≡ s_kind n s r y
one_sized n s r within (s_much a) (s_much b) = refl
one_sized n s r within (s_much a) (s_zero b t) = absurd (omega arith)
one_sized n s r within (s_much a) (s_some b c d) = absurd (omega arith)
one_sized n s r within (s_zero a t) (s_much b) = absurd (omega arith)
one_sized n s r within (s_zero a t) (s_zero b u) = one_trailing r t u
one_sized n s r within (s_zero a t) (s_some b c d) = absurd (omega arith)
one_sized n s r within (s_some a b d) (s_much c) = absurd (omega arith)
one_sized n s r within (s_some a b d) (s_zero c t) = absurd (omega arith)
one_sized n s r within (s_some a b d) (s_some c e f) = one_behind s r d f

-- ---- size lines

l_never_open : (front : List ℕ) → NeverHasChunkLine front → IsOpenLine front → ⊥
l_never_open front never open_end = never open_end.may.0 open_end.may.1 [] open_end.may.2

l_never_has : (b r : List ℕ) (l : ChunkLine) → NeverHasChunkLine (take piece_limit b) → HasSizeLine b l r → ⊥
l_never_has b r l never has =
    let f = front_of b (print_chunk_line l) r has.spelled has.line_is.within in
    never [] l f.0 (has.line_is.valid, append-nil (take piece_limit b) ∙ f.1)

l_long_has : (b r : List ℕ) (l : ChunkLine) → IsOpenLine (take piece_limit b) → HasSizeLine b l r → ⊥
l_long_has b r l open_end has =
    let f = front_of b (print_chunk_line l) r has.spelled has.line_is.within in
    open_end.none l f.0 (has.line_is.valid, f.1)

one_line : (n : ℕ) (b : List ℕ) → n ≤ body_limit → (x y : Line n b) → l_kind n b x ≡ l_kind n b y
one_line n b within (l_never a) (l_never c) = refl
one_line n b within (l_never a) (l_long c d) = refl
one_line n b within (l_never a) (l_short c d) = absurd (l_never_open (take piece_limit b) a (subst IsOpenLine (sym (short_is b c)) d))
one_line n b within (l_never a) (l_has l r h s) = absurd (l_never_has b r l a h)
one_line n b within (l_long a c) (l_never d) = refl
one_line n b within (l_long a c) (l_long d e) = refl
one_line n b within (l_long a c) (l_short d e) = absurd (omega arith)
one_line n b within (l_long a c) (l_has l r h s) = absurd (l_long_has b r l c h)
one_line n b within (l_short a c) (l_never d) = absurd (l_never_open (take piece_limit b) d (subst IsOpenLine (sym (short_is b a)) c))
one_line n b within (l_short a c) (l_long d e) = absurd (omega arith)
one_line n b within (l_short a c) (l_short d e) = refl
one_line n b within (l_short a c) (l_has l r h s) = absurd (c.none l r (h.line_is.valid, h.spelled))
one_line n b within (l_has l r h s) (l_never a) = absurd (l_never_has b r l a h)
one_line n b within (l_has l r h s) (l_long a c) = absurd (l_long_has b r l c h)
one_line n b within (l_has l r h s) (l_short a c) = absurd (c.none l r (h.line_is.valid, h.spelled))
one_line n b within (l_has l r h s) (l_has m q i t) =
    let same = lines l m r q h.line_is.valid i.line_is.valid (sym h.spelled ∙ i.spelled) in
    let at_rest : (u : Sized n (chunk_size l) q) → s_kind n (chunk_size l) r s ≡ s_kind n (chunk_size l) q u = subst (λ (v : List ℕ). (u : Sized n (chunk_size l) v) → s_kind n (chunk_size l) r s ≡ s_kind n (chunk_size l) v u) same.1 (one_sized n (chunk_size l) r within s) in
    subst (λ (w : ChunkLine). (u : Sized n (chunk_size w) q) → s_kind n (chunk_size l) r s ≡ s_kind n (chunk_size w) q u) same.0 at_rest t

-- one more chunk comes
chunk_line : (n : ℕ) (c : Chunk) (rest r : List ℕ) → IsChunk c → n + length c.bytes ≤ body_limit → r ≡ print_chunk_line c.line ++ (c.bytes ++ (crlf_bytes ++ rest)) → (x : Line n r) × (l_kind n r x ≡ next)
chunk_line n c rest r is within spelled =
    (l_has c.line (c.bytes ++ (crlf_bytes ++ rest)) (record { line_is = is.line; spelled = spelled }) (s_some is.some (omega (arith, is.size)) (d_end c.bytes (crlf_bytes ++ rest) is.size refl (e_has (rest, refl)))), refl)

-- after the chunks of the same bytes the same comes
one_end : (n m k : ℕ) (cs ds : List Chunk) (r q : List ℕ) → m ≡ n + length (body_of cs) → k ≡ n + length (body_of ds) → m ≤ body_limit → k ≤ body_limit → All IsChunk cs → All IsChunk ds → chunks_text cs ++ r ≡ chunks_text ds ++ q → (x : Line m r) (y : Line k q) → (l_kind m r x ≡ next → ⊥) → (l_kind k q y ≡ next → ⊥) → l_kind m r x ≡ l_kind k q y
one_end n m k [] [] r q is_m is_k low high all every e x y not_x not_y =
    let same : m ≡ k = is_m ∙ sym is_k in
    let at_rest : (z : Line m q) → l_kind m r x ≡ l_kind m q z = subst (λ (v : List ℕ). (z : Line m v) → l_kind m r x ≡ l_kind m v z) e (one_line m r low x) in
    subst (λ (j : ℕ). (z : Line j q) → l_kind m r x ≡ l_kind j q z) same at_rest y
one_end n m k [] (d ∷ ds) r q is_m is_k low high all every e x y not_x not_y =
    let is = All-head IsChunk d ds every in
    let z = chunk_line m d (chunks_text ds ++ q) r is (omega (arith, is_m, is_k, high, length-append d.bytes (body_of ds))) (e ∙ group d ds q) in
    absurd (not_x (one_line m r low x z.0 ∙ z.1))
one_end n m k (c ∷ cs) [] r q is_m is_k low high all every e x y not_x not_y =
    let is = All-head IsChunk c cs all in
    let z = chunk_line k c (chunks_text cs ++ r) q is (omega (arith, is_m, is_k, low, length-append c.bytes (body_of cs))) (sym e ∙ group c cs r) in
    absurd (not_y (one_line k q high y z.0 ∙ z.1))
one_end n m k (c ∷ cs) (d ∷ ds) r q is_m is_k low high all every e x y not_x not_y =
    let is = All-head IsChunk c cs all in
    let that = All-head IsChunk d ds every in
    let h = lines c.line d.line _ _ is.line.valid that.line.valid (sym (group c cs r) ∙ e ∙ group d ds q) in
    let sizes : length c.bytes ≡ length d.bytes = is.size ∙ ap chunk_size h.0 ∙ sym that.size in
    let f = same_front c.bytes d.bytes _ _ sizes h.1 in
    let j = same_front crlf_bytes crlf_bytes (chunks_text cs ++ r) (chunks_text ds ++ q) refl f.1 in
    one_end (n + length c.bytes) m k cs ds r q (omega (arith, is_m, length-append c.bytes (body_of cs))) (omega (arith, is_k, sizes, length-append d.bytes (body_of ds))) low high (All-tail IsChunk c cs all) (All-tail IsChunk d ds every) j.1 x y not_x not_y

-- ---- what stops, and what ends, is of its kind

-- the bytes begin with chunks, and after them comes something of this kind
pub record ComesTo (bytes : List ℕ) (kind : Kind) : Type 0 where
  pub chunks : List Chunk
  pub rest : List ℕ
  pub are_chunks : All IsChunk chunks
  pub within : length (body_of chunks) ≤ body_limit
  pub spelled : bytes ≡ chunks_text chunks ++ rest
  pub line : Line (length (body_of chunks)) rest
  pub kind_is : l_kind (length (body_of chunks)) rest line ≡ kind

pub one_kind : (bytes : List ℕ) (a b : Kind) → ComesTo bytes a → ComesTo bytes b → (a ≡ next → ⊥) → (b ≡ next → ⊥) → a ≡ b
one_kind bytes a b x y not_a not_b =
    sym x.kind_is ∙ one_end 0 (length (body_of x.chunks)) (length (body_of y.chunks)) x.chunks y.chunks x.rest y.rest (omega arith) (omega arith) x.within y.within x.are_chunks y.are_chunks (sym x.spelled ∙ y.spelled) x.line y.line (λ e. not_a (sym x.kind_is ∙ e)) (λ e. not_b (sym y.kind_is ∙ e)) ∙ y.kind_is

comes : (stop : ℕ → List ℕ → Type 0) (bytes : List ℕ) (kind : Kind) → ((n : ℕ) (rest : List ℕ) → stop n rest → (x : Line n rest) × (l_kind n rest x ≡ kind)) → StopsWhere stop bytes → ComesTo bytes kind
comes stop bytes kind line s = let l = line (length (body_of s.chunks)) s.rest s.stops in record { chunks = s.chunks; rest = s.rest; are_chunks = s.are_chunks; within = s.within; spelled = s.spelled; line = l.0; kind_is = l.1 }

last_has : (b r : List ℕ) (l : ChunkLine) → IsLastLine l → b ≡ print_chunk_line l ++ r → HasSizeLine b l r
last_has b r l last is = record { line_is = last.line_is; spelled = is }

fault_line : (n : ℕ) (b : List ℕ) → ChunkFault n b → (x : Line n b) × (l_kind n b x ≡ malformed)
fault_line n b (no_line never) = (l_never never, refl)
fault_line n b (long_line long open_end) = (l_long long open_end, refl)
fault_line n b (no_line_end l r d never) = (l_has l (d.chunk_bytes ++ r) (record { line_is = d.line_is; spelled = d.spelled }) (s_some d.some d.within (d_end d.chunk_bytes r d.size refl (e_never never))), refl)
fault_line n b (bad_trailers l r last is never) = (l_has l r (last_has b r l last is) (s_zero last.none (t_never never)), refl)
fault_line n b (long_trailers l r last is long open_end) = (l_has l r (last_has b r l last is) (s_zero last.none (t_long long open_end)), refl)

much_line : (n : ℕ) (b : List ℕ) → IsTooMuch n b → (x : Line n b) × (l_kind n b x ≡ much)
much_line n b m = (l_has m.line m.rest m.has (s_much m.over), refl)

cut_line_of : (n : ℕ) (b : List ℕ) → IsCutOff n b → (x : Line n b) × (l_kind n b x ≡ cut)
cut_line_of n b (in_line few open_end) = (l_short few open_end, refl)
cut_line_of n b (in_data l r has some within few) = (l_has l r has (s_some some within (d_short few)), refl)
cut_line_of n b (before_line_end l r d open_end) = (l_has l (d.chunk_bytes ++ r) (record { line_is = d.line_is; spelled = d.spelled }) (s_some d.some d.within (d_end d.chunk_bytes r d.size refl (e_open open_end))), refl)
cut_line_of n b (in_trailers l r last is few open_end) = (l_has l r (last_has b r l last is) (s_zero last.none (t_short few open_end)), refl)

pub comes_fault : (bytes : List ℕ) → StopsWhere ChunkFault bytes → ComesTo bytes malformed
comes_fault bytes s = comes ChunkFault bytes malformed fault_line s

pub comes_much : (bytes : List ℕ) → StopsWhere IsTooMuch bytes → ComesTo bytes much
comes_much bytes s = comes IsTooMuch bytes much much_line s

pub comes_cut : (bytes : List ℕ) → StopsWhere IsCutOff bytes → ComesTo bytes cut
comes_cut bytes s = comes IsCutOff bytes cut cut_line_of s

pub comes_whole : (bytes body : List ℕ) → IsChunked bytes body → ComesTo bytes whole
comes_whole bytes body c =
    let section = print_section c.fields c.end ++ c.rest in
    record {
      chunks = c.chunks;
      rest = print_chunk_line c.last ++ section;
      are_chunks = c.are_chunks;
      within = omega (arith, ap length c.carried, c.within);
      spelled = c.spelled;
      line = l_has c.last section (last_has (print_chunk_line c.last ++ section) section c.last c.is_last refl) (s_zero c.is_last.none (t_has c.fields c.end c.rest c.are_trailers refl));
      kind_is = refl;
    }
