mod ActionLaws
mod ReadLaws
mod FillLaws
mod SpellLaws
mod UniqueLaws
mod FormLaws
