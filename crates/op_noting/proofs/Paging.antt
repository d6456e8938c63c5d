-- What an entry adds to the feeds.
use Rattle.std.proofs.Common.{◌≡◌, ℕ, List, [], ◌∷◌, ◌++◌, refl, sym, ap, ◌∙◌, Some, None, Option, append-nil}
use Rattle.std.specs.Option.{option_map_or, option_to_list}
use Rattle.op_amount.specs.declared.Asset.{Asset}
use Rattle.op_model.specs.Events.{pages, pages_added, page_row}
use Rattle.op_model.specs.Payments.{outgoing_row}
use Rattle.op_model.specs.declared.act.Act.{Act}
use Rattle.op_model.specs.declared.act.Act.TheVariants as acts
use Rattle.op_model.specs.declared.act.Entry.{Entry}
use Rattle.op_model.specs.declared.row.OutgoingRow.{OutgoingRow}
use Rattle.op_model.specs.declared.row.PageRow.{PageRow}
use Rattle.op_model.proofs.Next.{pages-next}
use Rattle.op_pages.specs.Value.{FeedsValue}
use Rattle.op_noting.specs.Kept.{ended_by, page_rows_of}
use Rattle.op_noting.specs.Laws.{FeedsNext, PagesGoOn, with_entry}

none_is : {P : Type 0} (p : ℕ) → Some p ≡ None → P
none_is p h = absurd (let e : Some p ≡ None = h in cc)

no_pages : (after : List Entry) (act : Act) → ended_by act ≡ None → pages_added after act ≡ []
no_pages after (acts.OutgoingCompleted payment step) h = none_is payment h
no_pages after (acts.OutgoingFailed payment step reason) h = none_is payment h
no_pages after _ h = refl

same_number : (p q : ℕ) → Some p ≡ Some q → p ≡ q
same_number p q h = cc

ended_where : (after : List Entry) (p q : ℕ) (row : OutgoingRow) → Some p ≡ Some q → outgoing_row after q ≡ Some row → option_map_or (page_row after) (outgoing_row after p) [] ≡ page_row after row
ended_where after p q row same found =
    ap (λ n. option_map_or (page_row after) (outgoing_row after n) []) (same_number p q same) ∙ ap (λ (o : Option OutgoingRow). option_map_or (page_row after) o []) found

row_added : (after : List Entry) (act : Act) (p : ℕ) (row : OutgoingRow) → ended_by act ≡ Some p → outgoing_row after p ≡ Some row → pages_added after act ≡ page_row after row
row_added after (acts.OutgoingCompleted payment step) p row h found = ended_where after payment p row h found
row_added after (acts.OutgoingFailed payment step reason) p row h found = ended_where after payment p row h found
row_added after _ p row h found = absurd (let e : None ≡ Some p = h in cc)

pub next : FeedsNext
next = record {
  stays = λ history e none. pages-next history e ∙ ap (λ (l : List PageRow). pages history ++ l) (no_pages (with_entry history e) e.act none) ∙ append-nil (pages history);
  ended = λ history e p row ends found. pages-next history e ∙ ap (λ (l : List PageRow). pages history ++ l) (row_added (with_entry history e) e.act p row ends found);
}

-- feeds that have the ended payment's row
pub goes_on : (old new : FeedsValue) (row : OutgoingRow) (asset : Asset) → new.rows ≡ old.rows ++ page_rows_of row asset → PagesGoOn old new row asset
goes_on old new row asset is history e p are ends found same =
    is
    ∙ ap (λ (l : List PageRow). l ++ page_rows_of row asset) are
    ∙ ap (λ (a : Asset). pages history ++ page_rows_of row a) same
    ∙ sym (next.ended history e p row ends found)

-- one row was noted, or none
pub row_noted : (old : FeedsValue) (made : Option PageRow) (row : PageRow) (rows : List PageRow) → option_to_list made ≡ rows → made ≡ Some row → old.rows ++ row ∷ [] ≡ old.rows ++ rows
row_noted old made row rows is found = ap (λ (l : List PageRow). old.rows ++ l) (sym (ap option_to_list found) ∙ is)

pub none_noted : (old : FeedsValue) (made : Option PageRow) (rows : List PageRow) → option_to_list made ≡ rows → made ≡ None → old.rows ≡ old.rows ++ rows
none_noted old made rows is found = sym (append-nil old.rows) ∙ ap (λ (l : List PageRow). old.rows ++ l) (sym (ap option_to_list found) ∙ is)
