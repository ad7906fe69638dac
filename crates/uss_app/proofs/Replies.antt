-- The texts of the replies, line by line.
use Rattle.std.proofs.Common.{◌≡◌, ℕ, suc, ◌+◌, ◌<◌, List, [], ◌∷◌, ◌++◌, length, drop, get_or, refl, sym, ap, ◌∙◌, add-one, append_assoc, append-nil}
use Rattle.std.proofs.Math.Seq.{drop-cons, drop-length}
use Rattle.uss_text.specs.declared.discover.DiscoverLine.{DiscoverLine}
use Rattle.uss_text.specs.Replies.{reply_text}
use Rattle.uss_intent.specs.declared.calls.DssReply.{DssReply}
use Rattle.uss_law_dss.specs.Service.{Service}
use Rattle.uss_law_dss.specs.Step.{service_step}
use Rattle.uss_app.specs.Discover.{replies_from}

-- this much of the whole text is made, and the lines after it make the rest
pub record SoFar (whole : List ℕ) (s : Service) (lines : List DiscoverLine) (i : ℕ) (text : List ℕ) : Type 0 where
  pub is : whole ≡ text ++ replies_from s (drop i lines)

pub none_so_far : (s : Service) (lines : List DiscoverLine) → SoFar (replies_from s lines) s lines 0 []
none_so_far s lines = record { is = refl }

-- one more line
pub go_on : (whole : List ℕ) (s after : Service) (lines : List DiscoverLine) (i : ℕ) (line : DiscoverLine) (reply : DssReply) (text more : List ℕ)
    → SoFar whole s lines i text → i < length lines → line ≡ get_or lines i line
    → reply ≡ (service_step s line.client line.ask).0 → after ≡ (service_step s line.client line.ask).1
    → more ≡ text ++ reply_text reply → SoFar whole after lines (i + 1) more
go_on whole s after lines i line reply text more so_far lt is_line is_reply is_after is_more =
    let rest : drop i lines ≡ line ∷ drop (i + 1) lines = rw (add-one) (drop-cons lines i line lt ∙ ap (λ (l : DiscoverLine). l ∷ drop (suc i) lines) (sym is_line)) in
    record {
      is = so_far.is
          ∙ ap (λ (ls : List DiscoverLine). text ++ replies_from s ls) rest
          ∙ sym (append_assoc text (reply_text (service_step s line.client line.ask).0) (replies_from (service_step s line.client line.ask).1 (drop (i + 1) lines)))
          ∙ rw (is_more, is_reply, is_after) refl;
    }

-- all lines
pub all_done : (whole : List ℕ) (s : Service) (lines : List DiscoverLine) (i : ℕ) (text : List ℕ) → SoFar whole s lines i text → i ≡ length lines → text ≡ whole
all_done whole s lines i text so_far all =
    sym (so_far.is ∙ ap (λ (n : ℕ). text ++ replies_from s (drop n lines)) all ∙ ap (λ (ls : List DiscoverLine). text ++ replies_from s ls) (drop-length lines) ∙ append-nil text)
