mod TextLaws
mod AddsLaws
mod ConditionsLaws
mod RanLaws
mod PrintedLaws
mod StepLaws
mod FeedLaws
