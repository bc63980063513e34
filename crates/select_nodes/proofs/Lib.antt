pub mod RankLaws
pub mod SortLaws
pub mod ReadingLaws
pub mod KeyLaws
pub mod DistinctLaws
pub mod ResultLaws
pub mod GroupLaws
