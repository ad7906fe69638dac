use Rattle.uss_http.proofs.writing.head_bytes.Goals as goal

pub returns-clause-text : goal.returns-clause-text
returns-clause-text c = cc (c.in_ok-text.ensures.items, c.in_ok-add_both.ensures, c.in_ok-add_both-2.ensures, c.in_ok-add_both-3.ensures, c.in_ok-add_both-4.ensures, c.in_ok-extend_from_slice.ensures.items, c.format.ensures.text)
