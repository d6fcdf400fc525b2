use Rattle.resolvo_catalogue_core.proofs.TableSteps.{empty}
use Rattle.resolvo_catalogue_core.proofs.table.Table.new.Goals as goal

pub returns-clause-table : goal.returns-clause-table
returns-clause-table c =
    empty (record { terms = c.in_ok-terms.terms; versions = c.new-2.result; line_kinds = c.new-3.result; packages = c.new-4.result; locks = c.new-5.result; favoured = c.new-6.result; many = c.new-7.result; excluded = c.new-8.result; unknown = c.new-9.result; owned = c.new-10.result; favours = c.new-11.result })
    c.ids_are_once.ensures c.new-2.ensures.items c.new-3.ensures c.new-4.ensures c.new-5.ensures.empty c.new-6.ensures.empty c.new-7.ensures.empty c.new-8.ensures.empty c.new-9.ensures.empty c.new-10.ensures c.new-11.ensures.items
