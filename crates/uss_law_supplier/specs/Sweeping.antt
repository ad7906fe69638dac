-- What a sweep does: it makes calls, and nothing else. This project's own.
use Rattle.std.specs.Prelude.{ℕ, ◌≡◌, ◌≤◌, ℤ, List, length, map, take, drop, Some, None}
use Rattle.uss_event.specs.declared.entries.Owner.{Owner}
use Rattle.uss_event.specs.declared.entries.Entry.{Entry}
use Rattle.uss_event.specs.declared.events.Said.TheVariants as Says
use Rattle.uss_event.specs.declared.events.Event.TheVariants as Comes
use Rattle.uss_law_book.specs.Legal.{IsLegal}
use Rattle.uss_law_supplier.specs.Values.{Values}
use Rattle.uss_law_supplier.specs.Chores.{most_chores, chores, chore_call}
use Rattle.uss_law_supplier.specs.Step.{supplier_step}

-- the calls are those of the chores after the first so many, in their order, each with its call, and at most so many as a sweep makes
pub record Sweeps (owner : Owner) (book : List Entry) (values : Values) (moment : ℤ) (skip : ℕ) : Type 0 where
  pub entry : (supplier_step owner book values moment (Comes.Sweep skip)).entry ≡ None
  pub said : (supplier_step owner book values moment (Comes.Sweep skip)).said ≡ Says.Nothing
  pub values_are : (supplier_step owner book values moment (Comes.Sweep skip)).values ≡ values
  pub in_order : map Some (supplier_step owner book values moment (Comes.Sweep skip)).sends
      ≡ map (chore_call owner book) (take most_chores (drop skip (chores book)))
  pub few : length (supplier_step owner book values moment (Comes.Sweep skip)).sends ≤ most_chores

-- so does each sweep of a supplier on a legal book
abbrev pub SweepsMakeTheirCalls : Type 0
SweepsMakeTheirCalls =
    (owner : Owner) (book : List Entry) (values : Values) (moment : ℤ) (skip : ℕ) → IsLegal book → Sweeps owner book values moment skip
