pub mod KeptLemmas
pub mod SameMembers
pub mod EndsLaws
pub mod TakenLaws
pub mod PageLaws
pub mod PagesLaws
